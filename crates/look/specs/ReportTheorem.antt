-- What the theorems on reports speak of: an input that is looked at as blocks, and the bits of what is counted. RULES.md: Report.
use Rattle.std.specs.Prelude.{◌≡◌, ℕ, ◌^◌, ◌<◌, Bool, false, not, List, [], ◌∷◌, length, nat_eq, slice_index_or, Option, None, Some}
use Rattle.float.specs.Format.{f16, f32, f64}
use Rattle.value.specs.declared.Kind.{Kind}
use Rattle.value.specs.declared.Value.{Value}
use Rattle.value.specs.Kinds.{kind_of, Form, unsigned, signed, floating, form_of}
use Rattle.value.specs.Meaning.{bits_of}
use Rattle.value.specs.Outcome.{Outcome}
use Rattle.cmp.specs.Compare.{lt_of, gt_of}
use Rattle.row.specs.Row.{rowed_outcome, any, how_many}
use Rattle.look.specs.declared.Seen.{Seen}
use Rattle.sample.specs.Samples.{count_of, samples_of, joined, WholeBlocks}
use Rattle.sample.specs.Refusals.{answer_of, refused_to}
use Rattle.look.specs.Report.{says, unlike_itself, infinite, minus_zero, nothing_seen, look_of}

-- the blocks, one after the other
abbrev pub looked_at : Kind → Kind → Seen → List (List ℕ) → Seen
looked_at from to s [] = s
looked_at from to s (b ∷ bs) = looked_at from to (look_of from to s b) bs

-- what is found is a number, it is one of the samples, and none passes the test against it; nothing is found where no sample is a number
abbrev pub Best : (Value → Value → Outcome Bool) → List Value → Option Value → Type 0
Best test vs None = any (λ v. not (unlike_itself v)) vs ≡ false
Best test vs (Some a) = (unlike_itself a ≡ false) × ((i : ℕ) × (i < length vs) × (slice_index_or vs i a ≡ a)) × (any (λ v. says (test v a)) vs ≡ false)

-- what is told of a whole input: its counts, that none of its samples is lower than the lowest or higher than the highest, and the answer
-- of its migration
abbrev pub Tells : Kind → Kind → List ℕ → Seen → Type 0
Tells from to bytes s =
    (s.samples ≡ count_of from bytes)
    × (s.nans ≡ how_many unlike_itself (samples_of from bytes))
    × (s.infinities ≡ how_many infinite (samples_of from bytes))
    × (s.minus_zeros ≡ how_many minus_zero (samples_of from bytes))
    × Best lt_of (samples_of from bytes) s.lowest
    × Best gt_of (samples_of from bytes) s.highest
    × (s.refusable ≡ how_many (refused_to to) (samples_of from bytes))
    × (rowed_outcome s.answer ≡ answer_of from to bytes)

-- looking at the blocks is looking at the whole, which tells this
abbrev pub LooksDecide : Type 0
LooksDecide =
    (from to : Kind) (bs : List (List ℕ)) → WholeBlocks from bs → length (joined bs) < 2 ^ 64
    → (looked_at from to nothing_seen bs ≡ look_of from to nothing_seen (joined bs))
    × Tells from to (joined bs) (look_of from to nothing_seen (joined bs))

-- ---- what is counted, by its bits

-- the bits of a form's two infinities; an integer has none
abbrev pub infinities_in : Form → List ℕ
infinities_in (unsigned n) = []
infinities_in (signed n) = []
infinities_in (floating f16) = 0x7c00 ∷ 0xfc00 ∷ []
infinities_in (floating f32) = 0x7f80_0000 ∷ 0xff80_0000 ∷ []
infinities_in (floating f64) = 0x7ff0_0000_0000_0000 ∷ 0xfff0_0000_0000_0000 ∷ []

-- the bits of a form's minus zero; an integer has none
abbrev pub minus_zeros_in : Form → List ℕ
minus_zeros_in (unsigned n) = []
minus_zeros_in (signed n) = []
minus_zeros_in (floating f16) = 0x8000 ∷ []
minus_zeros_in (floating f32) = 0x8000_0000 ∷ []
minus_zeros_in (floating f64) = 0x8000_0000_0000_0000 ∷ []

-- what is counted as an infinity and as minus zero are just the samples with these bits
abbrev pub CountedByBits : Type 0
CountedByBits =
    (v : Value)
    → (infinite v ≡ any (nat_eq (bits_of v)) (infinities_in (form_of (kind_of v))))
    × (minus_zero v ≡ any (nat_eq (bits_of v)) (minus_zeros_in (form_of (kind_of v))))
