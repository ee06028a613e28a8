-- That writes fit is a fact.
use Rattle.std.proofs.Common.{ℕ, List, [], ◌∷◌}
use Rattle.std.proofs.Math.Bridge.{le_prop}
use Rattle.ox_memory.specs.Log.{put, Fits}
use Rattle.ox_memory.specs.declared.log.Call.{Call}
use Rattle.ox_memory.specs.declared.log.Call.TheVariants.{Write, Sync, Crash}

pub fits_prop : (file : List ℕ) (writes : List Call) → IsProp (Fits file writes)
fits_prop file [] = λ p q i. tt
fits_prop file (Write at bytes ∷ writes) = λ p q i. (le_prop p.0 q.0 i, fits_prop (put file at bytes) writes p.1 q.1 i)
fits_prop file (Sync ∷ writes) = fits_prop file writes
fits_prop file (Crash image ∷ writes) = fits_prop file writes
