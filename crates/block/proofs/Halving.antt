-- f16 to f32: no sample but a NaN is refused, so a block without NaN is answered as the pass that writes it.
use Rattle.std.proofs.Common.{◌≡◌, ℕ, ◌/◌, ◌^◌, ◌<◌, ◌≤◌, false, List, map, length, get_or, sym, refl, ap, ◌∙◌, mod-eq_of_lt, arith}
use lib.Seq.{sets}
use Rattle.float.specs.Format.{f16, nan_in}
use Rattle.float.specs.Order.{pattern_in}
use Rattle.float.proofs.Language.{times_none, none_pattern}
use Rattle.value.specs.declared.Kind.TheVariants as kind
use Rattle.value.specs.declared.Value.TheVariants.{F16}
use Rattle.value.specs.Kinds.{bytes_of}
use Rattle.value.specs.Meaning.{bits_of, exact_of, step_of, value_of}
use Rattle.value.specs.Outcome.{gives, mapped, done}
use Rattle.convert.proofs.Exactly.{is_none_lem}
use Rattle.convert.proofs.Widening.{widened}
use Rattle.row.specs.Row.{any}
use Rattle.sample.specs.Samples.{count_of, numbers_in}
use Rattle.sample.specs.Refusals.{bits_to}
use Rattle.sample.proofs.Samplings.{length_numbers}
use Rattle.block.specs.Output.{bytes_for}
use Rattle.block.specs.Inner.{given_bits, half_bits}
use Rattle.block.proofs.Blocks.{BlockAnswers}
use Rattle.block.proofs.Rowing.{map_same, row_always, numbers_small, agree_by}
use Rattle.block.proofs.Pairs.{mapped_same, fails_here}

-- ---- one sample

abbrev Plain : ℕ → Type 0
Plain b = (b < 2 ^ 16) × (nan_in f16 b ≡ false)

plain_moved : (b : ℕ) → Plain b → bits_to kind.F32 (F16 b) ≡ gives (half_bits b)
unfolding bits_to
plain_moved b h =
    let some = times_none (step_of f16) (pattern_in f16 b) ∙ none_pattern 10 5 b ∙ h.1 in
    let e = ap (mapped bits_of) (widened (F16 b) kind.F32 h.0 (λ q. omega arith) refl (is_none_lem (exact_of (F16 b)) some)).1 in
    e ∙ sym (ap (λ o. gives (given_bits o)) e)

half_sample : (b : ℕ) → b < 2 ^ 16 → bits_to kind.F32 (value_of kind.F16 b) ≡ mapped (λ n. n) (bits_to kind.F32 (F16 b))
unfolding value_of
half_sample b small = ap (λ (n : ℕ). bits_to kind.F32 (F16 n)) (mod-eq_of_lt small) ∙ mapped_same (bits_to kind.F32 (F16 b))

-- ---- the block

pub halved_block : (src old : List ℕ) {n : ℕ} → n ≡ count_of kind.F16 src → any (nan_in f16) (numbers_in 2 n src) ≡ false
    → n ≤ length old / bytes_of kind.F32 → ((i : ℕ) → get_or src i 0 < 256)
    → {now : List ℕ} → now ≡ sets old 0 (bytes_for kind.F32 (map half_bits (numbers_in 2 n src))) → BlockAnswers kind.F16 kind.F32 src old (gives done) now
halved_block src old {n} count none room bytes {now} q =
    let xs = numbers_in 2 n src in
    let row : xs ≡ map (λ (n : ℕ). n) (numbers_in 2 (count_of kind.F16 src) src) =
    ap (λ (m : ℕ). numbers_in 2 m src) count ∙ sym (map_same (numbers_in 2 (count_of kind.F16 src) src)) in
    let w = agree_by kind.F16 kind.F32 (λ b. bits_to kind.F32 (F16 b)) (λ n. n) (λ n. n) half_sample src bytes xs row in
    row_always kind.F16 kind.F32 src old (rw (← count) room) (λ b. bits_to kind.F32 (F16 b)) (λ n. n) half_bits Plain plain_moved xs 0 w.0 w.1
    (λ i h. (numbers_small 2 n src bytes i (rw (← length_numbers 2 n src) h), fails_here (nan_in f16) xs i 0 none h))
    (q ∙ ap (λ (l : List ℕ). sets old 0 (bytes_for kind.F32 l)) (sym (map_same (map half_bits xs))))
