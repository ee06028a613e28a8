use Rattle.ox_schedule.proofs.ShapeLemmas.{bytes_rule, bytes_again, word_rule, word_again}
use Rattle.ox_schedule.proofs.law.law_rules.Goals as goal

pub returns-clause-bytes : goal.returns-clause-bytes
returns-clause-bytes c = λ p line. (bytes_rule p line, λ h. bytes_again p line h.0 h.1)

pub returns-clause-word : goal.returns-clause-word
returns-clause-word c = λ p line. (word_rule p line, word_again p line)
