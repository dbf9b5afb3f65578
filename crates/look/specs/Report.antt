-- What a report says of samples: a fold over them. RULES.md: Report.
use Rattle.value.specs.declared.Refusal.{Refusal}
use Rattle.std.specs.Prelude.{ℕ, ◌+◌, Bool, true, false, cond, List, [], ◌∷◌, ◌==◌, Option, Result, Err, None, Ok, Some}
use Rattle.value.specs.declared.Kind.{Kind}
use Rattle.value.specs.declared.Value.{Value}
use Rattle.value.specs.Meaning.{exact_of}
use Rattle.value.specs.Outcome.{Outcome, gives, refuses}
use Rattle.cmp.specs.Compare.{ne_of, lt_of, gt_of}
use Rattle.convert.specs.Convert.{is_infinite, is_minus_zero}
use Rattle.look.specs.declared.Seen.{Seen}
use Rattle.sample.specs.Samples.{left_of, samples_of, counted}
use Rattle.sample.specs.Refusals.{bits_to, refused_to}

-- ---- one sample

-- a test says yes; one that is refused doesn't
abbrev pub says : Outcome Bool → Bool
says (gives t) = t
says (refuses number place) = false

-- a NaN is not equal to itself
abbrev pub unlike_itself : Value → Bool
unlike_itself v = says (ne_of v v)

-- a value that is an infinity, plus or minus
abbrev pub infinite : Value → Bool
infinite v = is_infinite (exact_of v)

-- a value that is minus zero
abbrev pub minus_zero : Value → Bool
minus_zero v = is_minus_zero (exact_of v)

-- what was found so far, or a sample that passes a test against it; a NaN is never found
abbrev pub better_of : (Value → Value → Outcome Bool) → Option Value → Value → Option Value
better_of test None v = cond (unlike_itself v) None (Some v)
better_of test (Some a) v = cond (says (test v a)) (Some v) (Some a)

-- the lowest and the highest: of samples that compare Equal the first stays
abbrev pub lower_of : Option Value → Value → Option Value
lower_of f v = better_of lt_of f v

abbrev pub higher_of : Option Value → Value → Option Value
higher_of f v = better_of gt_of f v

-- one more where the test holds
abbrev pub count_if : Bool → ℕ → ℕ
count_if true n = counted (n + 1)
count_if false n = n

-- what is refused first stays; `at` is the sample's index
abbrev pub first_of : Result (Unit {0}) Refusal → ℕ → Outcome ℕ → Result (Unit {0}) Refusal
first_of (Err f) at o = Err f
first_of (Ok u) at (gives b) = Ok tt
first_of (Ok u) at (refuses number place) = Err (record { number = number; place = at })

-- what was seen, and a sample more
unfoldable pub noted_of : Kind → Seen → Value → Seen
noted_of to s v = record {
  samples = count_if true s.samples;
  nans = count_if (unlike_itself v) s.nans;
  infinities = count_if (infinite v) s.infinities;
  minus_zeros = count_if (minus_zero v) s.minus_zeros;
  lowest = lower_of s.lowest v;
  highest = higher_of s.highest v;
  refusable = count_if (refused_to to v) s.refusable;
  answer = first_of s.answer s.samples (bits_to to v);
}

-- ---- a string of bytes, behind what was seen before it

-- before the first sample
abbrev pub nothing_seen : Seen
nothing_seen = record { samples = 0; nans = 0; infinities = 0; minus_zeros = 0; lowest = None; highest = None; refusable = 0; answer = Ok tt }

-- the samples, one after the other
unfoldable pub all_noted : Kind → Seen → List Value → Seen
all_noted to s [] = s
all_noted to s (v ∷ vs) = all_noted to (noted_of to s v) vs

-- bytes left over are 9, at the number of whole samples
abbrev pub left_noted : Seen → Seen
left_noted s = record {
  samples = s.samples;
  nans = s.nans;
  infinities = s.infinities;
  minus_zeros = s.minus_zeros;
  lowest = s.lowest;
  highest = s.highest;
  refusable = s.refusable;
  answer = Err (record { number = 9; place = s.samples });
}

-- all its samples, and whether bytes are left over
unfoldable pub look_of : Kind → Kind → Seen → List ℕ → Seen
look_of from to s src =
    let all = all_noted to s (samples_of from src) in
    cond (left_of from src == 0) all (left_noted all)
