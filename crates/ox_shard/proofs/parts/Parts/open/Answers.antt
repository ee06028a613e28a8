use Rattle.std.proofs.Common.{refl}
use Rattle.ox_session.specs.Members.{sessions_of}
use Rattle.ox_shard.proofs.Sessions.{is_new}
use Rattle.ox_shard.proofs.Opened.{opened-is, opened-tied, opened-step}
use Rattle.ox_shard.proofs.parts.Parts.open.Goals as goal

pub open_session-requires : goal.open_session-requires
open_session-requires c = is_new c.args.offset (sessions_of c.args.self.now.lists.sessions) c.requires.ids

pub returns-clause-done : goal.returns-clause-done
returns-clause-done c =
    opened-is c.args.self.now c.args.offset c.args.timeout c.requires.tied c.charge.new.self c.open_session.new.self c.requires.ids c.if-not-charge.ensures.charged c.in_ok-open_session.ensures.sessions
    c.in_ok-alone-2.field-0 (c.if-not-charge.ensures.answer.0 refl) c.in_ok-alone-2.ensures

pub returns-clause-tied : goal.returns-clause-tied
returns-clause-tied c =
    opened-tied c.args.self.now c.args.offset c.args.timeout c.requires.tied c.charge.new.self c.open_session.new.self c.requires.ids c.if-not-charge.ensures.charged c.in_ok-open_session.ensures.sessions
    c.in_ok-open_session.ensures.members

pub returns-clause-step : goal.returns-clause-step
returns-clause-step c =
    opened-step c.args.self.now c.args.offset c.args.timeout c.requires.tied c.charge.new.self c.open_session.new.self c.requires.ids c.if-not-charge.ensures.charged c.in_ok-open_session.ensures.sessions
