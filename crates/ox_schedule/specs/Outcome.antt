-- Reading from left to right, with the first rule that is broken.
use Rattle.std.specs.Prelude.{◌≡◌, Result, Ok, Err, Bool, ◌&&◌, List, ℕ, if◌then◌else◌}
use Rattle.std.specs.Str.{bytes_eq}
use Rattle.ox_types.specs.declared.ended.LineRule.{LineRule}
use Rattle.ox_schedule.specs.declared.fault.LineFault.{LineFault}
use Rattle.ox_schedule.specs.declared.fault.LineFault.TheVariants as fault

-- one step and then the next, unless a rule is broken
infixl 10 ◌>>=◌
abbrev pub ◌>>=◌ : {A B : Type 0} → Result A LineRule → (A → Result B LineRule) → Result B LineRule
(Ok x) >>= f = f x
(Err e) >>= f = Err e

-- a fault says what reading gives, unless memory ran out
abbrev pub Fails : {Y : Type 0} → LineFault → Result Y LineRule → Type 0
Fails fault.NoMemory read = Unit {0}
Fails (fault.Rule rule) read = read ≡ Err rule

-- what a function returned, seen by view, is what reading gives, unless memory ran out
abbrev pub Gives : {X Y : Type 0} → (X → Y) → Result X LineFault → Result Y LineRule → Type 0
Gives view (Ok x) read = read ≡ Ok (view x)
Gives view (Err e) read = Fails e read

-- the word says a, in its one spelling, and a is lawful; else the rule is broken
abbrev pub said : {A : Type 0} → (A → List ℕ) → (A → Bool) → LineRule → List ℕ → A → Result A LineRule
said spell lawful rule word a = if bytes_eq word (spell a) && lawful a then Ok a else Err rule
