use Rattle.std.proofs.Common.{◌≡◌, ◌++◌, ℕ, List, append_assoc, codes}
use Rattle.std.proofs.lemmas.Result.{IfOk-weaker}
use Rattle.ox_text.specs.Words.{behind_space, field}
use Rattle.ox_report.specs.Refusal.{part_name, bad_rule_name, bad_text}
use Rattle.ox_report.proofs.refusal.add_bad.Goals as goal

regroup : (a b c d e : List ℕ) → (((a ++ b) ++ c) ++ d) ++ e ≡ a ++ (((b ++ c) ++ d) ++ e)
regroup a b c d e = simp append_assoc

pub returns : goal.returns
returns c =
    let bad = c.args.bad in
    let rule = behind_space (bad_rule_name bad.rule) in
    let P : Unit {0} → Type 0 = λ _. c.add_rule.new.text ≡ c.add_field.new.text ++ rule in
    let Q : Unit {0} → Type 0 = λ _. c.add_rule.new.text ≡ c.args.text.now ++ bad_text bad in
    let all : c.add_field.new.text ++ rule ≡ c.args.text.now ++ bad_text bad = rw (c.in_ok-add_field.ensures, c.in_ok-add_part.ensures, c.in_ok-extend.ensures.ok) (regroup c.args.text.now (codes "bad-request") (behind_space (part_name bad.part)) (field bad.index) rule) in
    IfOk-weaker c.add_rule.result P Q (λ _ e. cc) c.add_rule.ensures
