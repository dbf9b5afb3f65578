-- The conversion of a row: rows of two lengths, a row with a sample that is refused, a row converted whole.
use mathlib.Core.Path.{◌≡◌, sym, ◌∙◌, ap}
use mathlib.Core.Bool.{Bool, not}
use mathlib.Core.List.{List, map}
use Prim.Native.Nat.{ℕ, ◌<◌}
use borrow.Author.Tests.{eq-eqb, ne_eqb}
use lib.Dec.{eqb}
use lib.ListN.{length, get_or, length-map}
use Rattle.std.proofs.lemmas.List.{get_or_default}
use Rattle.std.specs.Prelude.{Some, position}
use Rattle.value.specs.Outcome.{Outcome, gives, refuses, Success, done}
use Rattle.row.specs.Convert.{convert_answer, convert_exit}
use Rattle.row.specs.Inner.{is_refused}
use Rattle.row.proofs.Rows.{Given, row_ruled, sample_decides, all_done}
use Rattle.row.proofs.Written.{mapped_at}

module _ {A B : Type 0} (conv : A → Outcome B) (src : List A) (dst : List B) where
  abbrev lengths_differ : Bool
  lengths_differ = not (eqb (length src) (length dst))

  -- what was answered and what dst then holds are those of the definition
  abbrev pub Answers : Outcome Success → List B → Type 0
  Answers answer left = (answer ≡ convert_answer conv src dst) × (left ≡ convert_exit conv src dst)

  pub lengths_differ_lem : (length src ≡ length dst → ⊥) → Answers (refuses 9 0) dst
  unfolding convert_answer convert_exit
  lengths_differ_lem h = row_ruled conv src lengths_differ 9 dst (ap not (ne_eqb _ _ h))

  module _ (same : length src ≡ length dst) where
    pub sample_decides_row : (test : A → Bool) (i m : ℕ) (d : A) → ((k : ℕ) → k < length src → is_refused (conv (get_or src k d)) ≡ test (get_or src k d))
        → position test src ≡ Some i → conv (get_or src i d) ≡ refuses m 0 → Answers (refuses m i) dst
    unfolding convert_answer convert_exit
    sample_decides_row = sample_decides conv lengths_differ 9 src dst (ap not (eq-eqb _ _ same))

    pub all_converted : (now : List B) → length src ≡ length now → Given conv src now → Answers (gives done) now
    unfolding convert_answer convert_exit
    all_converted = all_done conv lengths_differ 9 src dst (ap not (eq-eqb _ _ same)) same

  -- where no sample is refused
  pub always_done : (f : A → B) (P : A → Type 0) (d : A) → ((x : A) → P x → conv x ≡ gives (f x)) → length src ≡ length dst
      → ((i : ℕ) → i < length src → P (get_or src i d))
      → (now : List B) → now ≡ map f src → Answers (gives done) now
  always_done f P d good same all now q =
      all_converted same now (sym (ap length q ∙ length-map src f)) (λ k x y l.
      ap conv (get_or_default src k x d l)
      ∙ good (get_or src k d) (all k l)
      ∙ ap gives (sym (ap (λ r. get_or r k y) q ∙ mapped_at f src k d y l)))
