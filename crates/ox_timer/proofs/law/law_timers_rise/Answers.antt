use Rattle.std.proofs.Common.{refl, true}
use Rattle.ox_timer.specs.declared.running.Running.{Running}
use Rattle.ox_timer.proofs.Changes.{rise_changed}
use Rattle.ox_timer.proofs.Merges.{rise_retimed}
use Rattle.ox_timer.proofs.law.law_timers_rise.Goals as goal

pub returns : goal.returns
returns c = record {
  retimed = rise_retimed;
  heard = λ id now running rise. rise_changed id (λ (r : Running). record r { since = now }) (λ r. refl) running rise;
  noted = λ id running rise. rise_changed id (λ (r : Running). record r { expired = true }) (λ r. refl) running rise;
}
