-- A row is answered sample by sample: where each is given the results stand in a line, and the first that is refused decides.
-- A rule of the whole row comes before that: 9 for the lengths, 6 for the bounds.
use Prim.Native.Nat.{ℕ, zero, suc, ◌+◌, ◌<◌}
use native.Mathlib.Nat.{not-suc-le-zero, zero-add}
use native.Mathlib.Omega.{arith}
use mathlib.Core.Path.{◌≡◌, refl, sym, ◌∙◌, ap, subst}
use mathlib.Core.Bool.{Bool, true, false, not}
use mathlib.Core.List.{List, [], ◌∷◌}
use borrow.Author.Tests.{eq-eqb, eqb-true, not-false}
use lib.Dec.{eqb, lit<}
use lib.ListN.{length, get_or}
use lib.Ieee.{Float, nan, binary32, to_bits, of_bits}
use Rattle.float.specs.Format.{f32, nan_of, abs_of}
use Rattle.float.specs.Number.{is_none}
use Rattle.float.specs.declared.Order.TheVariants.{Unordered}
use Rattle.float.specs.Order.{is_less_or_equal, is_unordered, pattern_of}
use Rattle.float.proofs.Comparing.{compare_nan_left}
use Rattle.float.proofs.Language.{times_none, none_pattern}
use Rattle.float.proofs.Tests.{clash}
use Rattle.value.specs.declared.Kind.{Kind}
use Rattle.value.specs.declared.Kind.TheVariants as kind
use Rattle.value.specs.declared.Value.{Value}
use Rattle.value.specs.declared.Value.TheVariants.{U8, U16, F32}
use Rattle.value.specs.Kinds.{kind_of, kind_number, form_of}
use Rattle.value.specs.Meaning.{bits_of, exact_of, step_of}
use Rattle.value.specs.Outcome.{Outcome, gives, refuses, refuse_if, mapped, Success, done}
use Rattle.value.proofs.FloatBits.{word_none}
use Rattle.value.proofs.Outcomes.{refuse_passes, given_fills}
use Rattle.choose.specs.declared.Range.{Range}
use Rattle.choose.specs.Choose.{sample_order, sample_of}
use Rattle.choose.specs.Inner.{clamped_by}
use Rattle.choose.proofs.Choice.{clamped_nan}
use Rattle.convert.specs.Convert.{pattern_for, made_in, convert_of}
use Rattle.convert.proofs.Accepted.{Accepted, made_float}
use Rattle.convert.proofs.Exactly.{other_kind, into_accepts}
use Rattle.row.specs.Row.{sample_then, row_answer, sample_before, row_results}
use Rattle.row.specs.Convert.{float_of, u8_to_u16, u16_to_u8, u16_to_f32, f32_to_u16, convert_answer, convert_exit}
use Rattle.row.proofs.ConvertRow.{lengths_differ_lem}
use Rattle.rowclamp.specs.Clamp.{clamp_answer, clamp_exit}
use Rattle.row.proofs.Rows.{results_length}
use Rattle.demands.specs.Rows.{AtEveryIndex, GivenBelow, AnyRow, BoundsInOrder, Rows}

-- ---- samples one after the other

sample_passes : {B : Type 0} (at : ℕ) (o : Outcome B) (rest : Outcome Success) → sample_then at o rest ≡ gives done
    → ((y : B) × (o ≡ gives y)) × (rest ≡ gives done)
sample_passes at (gives y) rest h = ((y, refl), h)
sample_passes at (refuses n p) rest h = clash cc

module _ {A B : Type 0} (conv : A → Outcome B) where
  given_behind : (v : A) (vs : List A) (n : ℕ) → GivenBelow conv (v ∷ vs) (suc n) → GivenBelow conv vs n
  given_behind v vs n g i x l = g (suc i) x (omega arith)

  done_given : (at : ℕ) (xs : List A) → row_answer conv at xs ≡ gives done → GivenBelow conv xs (length xs)
  unfolding row_answer
  done_given at [] h i x l = absurd (not-suc-le-zero l)
  done_given at (v ∷ vs) h zero x l = (sample_passes at (conv v) (row_answer conv (suc at) vs) h).0
  done_given at (v ∷ vs) h (suc i) x l =
      done_given (suc at) vs (sample_passes at (conv v) (row_answer conv (suc at) vs) h).1 i x (omega arith)

  given_done : (at : ℕ) (xs : List A) → GivenBelow conv xs (length xs) → row_answer conv at xs ≡ gives done
  unfolding row_answer
  given_done at [] g = refl
  given_done at (v ∷ vs) g =
      ap (λ o. sample_then at o (row_answer conv (suc at) vs)) (g 0 v (omega arith)).1
      ∙ given_done (suc at) vs (given_behind v vs (length vs) g)

  refused_lowest : (at : ℕ) (xs : List A) (i : ℕ) → i < length xs → GivenBelow conv xs i → (n p : ℕ) (x : A) → conv (get_or xs i x) ≡ refuses n p
      → row_answer conv at xs ≡ refuses n (at + i)
  unfolding row_answer
  refused_lowest at [] i l g n p x h = absurd (not-suc-le-zero l)
  refused_lowest at (v ∷ vs) zero l g n p x h =
      ap (λ o. sample_then at o (row_answer conv (suc at) vs)) h ∙ ap (λ (k : ℕ). refuses n k) (omega arith)
  refused_lowest at (v ∷ vs) (suc i) l g n p x h =
      ap (λ o. sample_then at o (row_answer conv (suc at) vs)) (g 0 v (omega arith)).1
      ∙ refused_lowest (suc at) vs i (omega arith) (given_behind v vs i g) n p x h
      ∙ ap (λ (k : ℕ). refuses n k) (omega arith)

  -- ---- the results in a line

  as_many : (xs : List A) → GivenBelow conv xs (length xs) → length (row_results conv xs) ≡ length xs
  as_many xs g = results_length conv 0 xs (given_done 0 xs g)

  results_at : (xs : List A) → GivenBelow conv xs (length xs) → AtEveryIndex (λ a b. conv a ≡ gives b) xs (row_results conv xs)
  unfolding row_results
  results_at [] g i x y l = absurd (not-suc-le-zero l)
  results_at (v ∷ vs) g zero x y l =
      let f = g 0 v (omega arith) in f.1 ∙ ap (λ o. gives (get_or (sample_before o (row_results conv vs)) 0 y)) (sym f.1)
  results_at (v ∷ vs) g (suc i) x y l =
      results_at vs (given_behind v vs (length vs) g) i x y (omega arith)
      ∙ ap (λ o. gives (get_or (sample_before o (row_results conv vs)) (suc i) y)) (sym (g 0 v (omega arith)).1)

  -- ---- the conversion of a row: the lengths come first

  module _ (src : List A) (dst : List B) where
    done_passes : convert_answer conv src dst ≡ gives done → (length src ≡ length dst) × GivenBelow conv src (length src)
    unfolding convert_answer
    done_passes h =
        let past = refuse_passes (not (eqb (length src) (length dst))) 9 0 (row_answer conv 0 src) done h in
        (eqb-true _ _ (not-false _ past.0), done_given 0 src past.1)

    same_lengths : length src ≡ length dst → convert_answer conv src dst ≡ row_answer conv 0 src
    unfolding convert_answer
    same_lengths q = ap (λ (t : Bool). refuse_if (not t) 9 0 (row_answer conv 0 src)) (eq-eqb _ _ q)

    exit_results : convert_answer conv src dst ≡ gives done → convert_exit conv src dst ≡ row_results conv src
    unfolding convert_exit
    exit_results h = let d = done_passes h in given_fills _ dst h (as_many src d.1 ∙ d.0)

  of_any_row : AnyRow conv
  unfolding convert_answer row_answer
  of_any_row = record {
    empty = refl;
    accepted = λ src dst. (done_passes src dst, λ h. same_lengths src dst h.0 ∙ given_done 0 src h.1);
    same_length = λ src dst h. let d = done_passes src dst h in ap length (exit_results src dst h) ∙ as_many src d.1 ∙ d.0;
    converted = λ src dst h i x y l.
        results_at src (done_passes src dst h).1 i x y l ∙ ap (λ (r : List B). gives (get_or r i y)) (sym (exit_results src dst h));
    lengths_differ_lem = λ src dst d. sym (lengths_differ_lem conv src dst d).0;
    lowest = λ src dst q i l g n p x h.
        same_lengths src dst q ∙ refused_lowest 0 src i l g n p x h ∙ ap (λ (k : ℕ). refuses n k) (zero-add i);
  }

-- ---- the four calls: what a sample holds tells the value

mapped_told : {B : Type 0} (f : Value → B) (into : B → Value) (o : Outcome Value) (y : B) → ((w : Value) → o ≡ gives w → w ≡ into (f w))
    → mapped f o ≡ gives y → o ≡ gives (into y)
mapped_told f into (gives w) y told h = let q : f w ≡ y = cc in ap gives (told w refl ∙ ap into q)
mapped_told f into (refuses n p) y told h = clash cc

module _ (v : Value) (w : Value) where
  abbrev ToOther : Kind → Type 0
  ToOther to = (kind_number (kind_of v) ≡ kind_number to → ⊥) × (convert_of v to ≡ gives w)

  made : (to : Kind) → ToOther to → Accepted (form_of to) (exact_of v) × (made_in to (exact_of v) ≡ w)
  made to h = into_accepts to (exact_of v) w (sym (other_kind v to h.0) ∙ h.1)

  u8_told : ToOther kind.U8 → w ≡ U8 (bits_of w)
  unfolding made_in
  u8_told h = subst (λ u. u ≡ U8 (bits_of u)) (made kind.U8 h).1 refl

  u16_told : ToOther kind.U16 → w ≡ U16 (bits_of w)
  unfolding made_in
  u16_told h = subst (λ u. u ≡ U16 (bits_of u)) (made kind.U16 h).1 refl

  -- what a conversion makes is no NaN, so 0 stands beside it
  f32_told : ToOther kind.F32 → w ≡ F32 (float_of w) 0
  unfolding made_in
  f32_told h =
      let x = exact_of v in
      let a = made kind.F32 h in
      let b = pattern_for f32 x in
      let number : nan_of 23 8 b ≡ false =
      sym (none_pattern 23 8 b)
      ∙ sym (times_none (step_of f32) (pattern_of 23 8 b))
      ∙ ap is_none (made_float f32 x a.0)
      ∙ a.0.some_number in
      subst (λ u. u ≡ F32 (float_of u) 0) a.1 (ap (F32 (of_bits binary32 b)) (sym (word_none f32 b (sym number))))

-- the conversion of a sample is that of its value
u8_u16 : (m n : ℕ) → u8_to_u16 m ≡ gives n → convert_of (U8 m) kind.U16 ≡ gives (U16 n)
unfolding u8_to_u16
u8_u16 m n = mapped_told bits_of U16 (convert_of (U8 m) kind.U16) n (λ w h. u16_told (U8 m) w ((λ q. clash cc), h))

u16_u8 : (m n : ℕ) → u16_to_u8 m ≡ gives n → convert_of (U16 m) kind.U8 ≡ gives (U8 n)
unfolding u16_to_u8
u16_u8 m n = mapped_told bits_of U8 (convert_of (U16 m) kind.U8) n (λ w h. u8_told (U16 m) w ((λ q. clash cc), h))

pub u16_f32 : (m : ℕ) (x : Float) → u16_to_f32 m ≡ gives x → convert_of (U16 m) kind.F32 ≡ gives (F32 x 0)
unfolding u16_to_f32
u16_f32 m x = mapped_told float_of (λ y. F32 y 0) (convert_of (U16 m) kind.F32) x (λ w h. f32_told (U16 m) w ((λ q. clash cc), h))

pub f32_u16 : (x : Float) (n : ℕ) → f32_to_u16 x ≡ gives n → convert_of (F32 x 0) kind.U16 ≡ gives (U16 n)
unfolding f32_to_u16
f32_u16 x n = mapped_told bits_of U16 (convert_of (F32 x 0) kind.U16) n (λ w h. u16_told (F32 x 0) w ((λ q. clash cc), h))

-- ---- the clamp of a row: the bounds come first

nan_unordered : (y : Float) → sample_order nan y ≡ Unordered
unfolding to_bits abs_of
nan_unordered y = sym (compare_nan_left 23 8 (to_bits binary32 nan) (to_bits binary32 y) refl (lit< tt))

module _ (range : Range) where
  abbrev in_order : Bool
  in_order = is_less_or_equal (sample_order range.lower range.upper)

  nan_refused : BoundsInOrder range → sample_of range nan ≡ refuses 8 0
  unfolding sample_of clamped_by
  nan_refused b =
      let bounds = sample_order range.lower range.upper in
      let low = sample_order nan range.lower in
      let high = sample_order nan range.upper in
      sym (clamped_nan nan range.lower range.upper bounds low high b (ap is_unordered (nan_unordered range.lower)))

  module _ (row : List Float) where
    abbrev after_bounds : Bool → Outcome Success
    after_bounds t = refuse_if (not t) 6 0 (row_answer (sample_of range) 0 row)

    clamp_passes : clamp_answer range row ≡ gives done → BoundsInOrder range × GivenBelow (sample_of range) row (length row)
    unfolding clamp_answer
    clamp_passes h =
        let past = refuse_passes (not in_order) 6 0 (row_answer (sample_of range) 0 row) done h in
        (not-false _ past.0, done_given (sample_of range) 0 row past.1)

    bounds_pass : BoundsInOrder range → clamp_answer range row ≡ row_answer (sample_of range) 0 row
    unfolding clamp_answer
    bounds_pass b = ap after_bounds b

    bounds_refused : (BoundsInOrder range → ⊥) → clamp_answer range row ≡ refuses 6 0
    unfolding clamp_answer
    bounds_refused d = go in_order refl
      where
        go : (t : Bool) → in_order ≡ t → after_bounds t ≡ refuses 6 0
        go true q = absurd (d q)
        go false q = refl

    pub clamp_results : clamp_answer range row ≡ gives done → clamp_exit range row ≡ row_results (sample_of range) row
    unfolding clamp_exit
    clamp_results h = given_fills _ row h (as_many (sample_of range) row (clamp_passes h).1)

-- ---- every row

pub of_rows : Rows
of_rows = record {
  any_row = of_any_row;
  u8_to_u16_lem = λ src dst h i x y l. u8_u16 _ _ ((of_any_row u8_to_u16).converted src dst h i x y l);
  u16_to_u8_lem = λ src dst h i x y l. u16_u8 _ _ ((of_any_row u16_to_u8).converted src dst h i x y l);
  u16_to_f32_lem = λ src dst h i x y l. u16_f32 _ _ ((of_any_row u16_to_f32).converted src dst h i x y l);
  f32_to_u16_lem = λ src dst h i x y l. f32_u16 _ _ ((of_any_row f32_to_u16).converted src dst h i x y l);
  clamp_accepted = λ range row. (clamp_passes range row, λ h. bounds_pass range row h.0 ∙ given_done (sample_of range) 0 row h.1);
  clamp_same_length = λ range row h. ap length (clamp_results range row h) ∙ as_many (sample_of range) row (clamp_passes range row h).1;
  clamped = λ range row h i x y l.
      results_at (sample_of range) row (clamp_passes range row h).1 i x y l
      ∙ ap (λ (r : List Float). gives (get_or r i y)) (sym (clamp_results range row h));
  bounds_first = bounds_refused;
  clamp_lowest = λ range row b i l g n p x h.
      bounds_pass range row b ∙ refused_lowest (sample_of range) 0 row i l g n p x h ∙ ap (λ (k : ℕ). refuses n k) (zero-add i);
  nan_refused = nan_refused;
}
