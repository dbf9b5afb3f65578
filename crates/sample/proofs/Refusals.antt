-- What one sample is answered.
use mathlib.Core.Path.{◌≡◌, sym, ap}
use Prim.Native.Nat.{ℕ}
use Rattle.value.specs.declared.Kind.{Kind}
use Rattle.value.specs.declared.Value.{Value}
use Rattle.value.specs.Meaning.{bits_of}
use Rattle.value.specs.declared.Refusal.{Refusal}
use Rattle.value.specs.Outcome.{Outcome, gives, refuses, mapped, outcome_of}
use Rattle.std.specs.Prelude.{Result, Ok, Err, is_err}
use Rattle.convert.specs.Convert.{convert_of}
use Rattle.sample.specs.Refusals.{bits_to, is_refused}

pub sample_given : (to : Kind) (v : Value) {w : Value} → gives w ≡ convert_of v to → bits_to to v ≡ gives (bits_of w)
unfolding bits_to
sample_given to v q = ap (mapped bits_of) (sym q)

pub sample_refused : (to : Kind) (v : Value) {m p : ℕ} → refuses m p ≡ convert_of v to → bits_to to v ≡ refuses m p
unfolding bits_to
sample_refused to v q = ap (mapped bits_of) (sym q)

pub refused_told : (to : Kind) (v : Value) (r : Result Value Refusal) → outcome_of r ≡ convert_of v to → is_err r ≡ is_refused (bits_to to v)
unfolding bits_to
refused_told to v (Ok w) q = ap (λ (o : Outcome Value). is_refused (mapped bits_of o)) q
refused_told to v (Err f) q = ap (λ (o : Outcome Value). is_refused (mapped bits_of o)) q
