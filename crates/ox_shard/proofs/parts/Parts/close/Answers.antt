use Rattle.std.proofs.Common.{◌∙◌, ap, sym, subst}
use Rattle.ox_ops.specs.State.{is_open}
use Rattle.ox_session.specs.Members.{sessions_of, members_in}
use Rattle.ox_puts.specs.Records.{RecordsState}
use Rattle.ox_shard.specs.declared.done.Done.{Done}
use Rattle.ox_shard.specs.Lists.{HasEntriesOf}
use Rattle.ox_shard.specs.Closing.{without_keys}
use Rattle.ox_shard.proofs.Opened.{was_open, was_closed, closed-is, closed-tied, closed-step, gone-is, gone-tied, gone-step, is_charged}
use Rattle.ox_shard.proofs.parts.Parts.close.Goals as goal

pub returns-in_default-clause-done : goal.returns-in_default-clause-done
returns-in_default-clause-done c =
    let closed = was_closed (is_open c.args.id (sessions_of c.args.self.now.lists.sessions)) (members_in c.args.id c.args.self.now.lists.sessions) (sym c.in_default.is ∙ c.in_ok-members.ensures.keys) in
    closed-is c.args.self.now c.args.id c.requires c.close_session.new.self c.in_ok-members.ensures.sessions c.in_ok-members.ensures.members closed c.in_ok-alone.field-0 c.in_ok-alone.ensures

pub returns-in_default-clause-tied : goal.returns-in_default-clause-tied
returns-in_default-clause-tied c =
    let closed = was_closed (is_open c.args.id (sessions_of c.args.self.now.lists.sessions)) (members_in c.args.id c.args.self.now.lists.sessions) (sym c.in_default.is ∙ c.in_ok-members.ensures.keys) in
    closed-tied c.args.self.now c.args.id c.requires c.close_session.new.self c.in_ok-members.ensures.sessions c.in_ok-members.ensures.members closed

pub returns-in_default-clause-step : goal.returns-in_default-clause-step
returns-in_default-clause-step c =
    let closed = was_closed (is_open c.args.id (sessions_of c.args.self.now.lists.sessions)) (members_in c.args.id c.args.self.now.lists.sessions) (sym c.in_default.is ∙ c.in_ok-members.ensures.keys) in
    closed-step c.args.self.now c.args.id c.requires c.close_session.new.self c.in_ok-members.ensures.sessions c.in_ok-members.ensures.members closed c.args.offset

pub refund-requires : goal.refund-requires
refund-requires c =
    let open' = was_open (is_open c.args.id (sessions_of c.args.self.now.lists.sessions)) (members_in c.args.id c.args.self.now.lists.sessions) c.in-Some.members (sym c.in-Some.is ∙ c.in_ok-members.ensures.keys) in
    is_charged c.args.self.now c.args.id c.requires open'.0

pub returns-clause-done : goal.returns-clause-done
returns-clause-done c =
    let open' = was_open (is_open c.args.id (sessions_of c.args.self.now.lists.sessions)) (members_in c.args.id c.args.self.now.lists.sessions) c.in-Some.members (sym c.in-Some.is ∙ c.in_ok-members.ensures.keys) in
    gone-is c.args.self.now c.args.id c.requires c.close_session.new.self c.in_ok-members.ensures.sessions c.in_ok-members.ensures.members c.refund.ensures.was_sound.rising open'.0 c.in-Some.members open'.1
    c.take_records.new.records (c.in_ok-notices.ensures.records ∙ ap (λ (t : RecordsState). record t { records = without_keys c.in-Some.members t.records }) c.refund.ensures.refunded) c.take_records.new.index
    c.len-removed.result c.in_ok-done.done.replies c.in_ok-notices.notices c.len-removed.ensures (ap (λ (d : Done). d.replies) c.in_ok-done.ensures) c.in_ok-notices.ensures.notices

pub returns-clause-tied : goal.returns-clause-tied
returns-clause-tied c =
    let open' = was_open (is_open c.args.id (sessions_of c.args.self.now.lists.sessions)) (members_in c.args.id c.args.self.now.lists.sessions) c.in-Some.members (sym c.in-Some.is ∙ c.in_ok-members.ensures.keys) in
    gone-tied c.args.self.now c.args.id c.requires c.close_session.new.self c.in_ok-members.ensures.sessions c.in_ok-members.ensures.members c.refund.ensures.was_sound.rising open'.0 c.in-Some.members open'.1
    c.take_records.new.records (c.in_ok-notices.ensures.records ∙ ap (λ (t : RecordsState). record t { records = without_keys c.in-Some.members t.records }) c.refund.ensures.refunded) c.take_records.new.index
    (subst (λ (t : RecordsState). HasEntriesOf c.args.self.now.lists.index t.records → HasEntriesOf c.take_records.new.index c.take_records.new.records.records) c.refund.ensures.refunded c.in_ok-notices.ensures.entries)

pub returns-clause-step : goal.returns-clause-step
returns-clause-step c =
    let open' = was_open (is_open c.args.id (sessions_of c.args.self.now.lists.sessions)) (members_in c.args.id c.args.self.now.lists.sessions) c.in-Some.members (sym c.in-Some.is ∙ c.in_ok-members.ensures.keys) in
    gone-step c.args.self.now c.args.id c.requires c.close_session.new.self c.in_ok-members.ensures.sessions c.in_ok-members.ensures.members c.refund.ensures.was_sound.rising open'.0 c.in-Some.members open'.1
    c.take_records.new.records (c.in_ok-notices.ensures.records ∙ ap (λ (t : RecordsState). record t { records = without_keys c.in-Some.members t.records }) c.refund.ensures.refunded) c.take_records.new.index c.args.offset
