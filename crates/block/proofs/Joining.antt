-- Strings of bytes joined where whole samples end: outputs are joined, and the first refusal stays the first.
use Rattle.std.proofs.Common.{◌≡◌, ℕ, suc, ◌+◌, ◌^◌, ◌<◌, List, [], ◌∷◌, ◌++◌, length, sym, refl, ap, ◌∙◌, add-zero, add-suc, mod-eq_of_lt, arith}
use Rattle.value.specs.declared.Kind.{Kind}
use Rattle.value.specs.Outcome.{Outcome, gives, refuses, and_then, Success}
use Rattle.row.specs.Row.{row_answer, row_results, sample_then, sample_before}
use Rattle.sample.specs.Samples.{left_of, samples_of}
use Rattle.sample.specs.Refusals.{bits_to}
use Rattle.sample.proofs.Joining.{samples_of_joined}
use Rattle.block.specs.Output.{bytes_for}
use Rattle.block.specs.Migrate.{output_of, placed_from}
use Rattle.block.proofs.Samplings.{bytes_append}

-- ---- rows joined

module _ {A B : Type 0} (conv : A → Outcome B) where
  sample_joined : (at : ℕ) (o : Outcome B) (r s : Outcome Success) → sample_then at o (and_then r (λ d. s)) ≡ and_then (sample_then at o r) (λ d. s)
  sample_joined at (gives y) r s = refl
  sample_joined at (refuses m p) r s = refl

  pub answer_joined : (at : ℕ) (xs ys : List A) → row_answer conv at (xs ++ ys) ≡ and_then (row_answer conv at xs) (λ d. row_answer conv (at + length xs) ys)
  unfolding row_answer
  answer_joined at [] ys = rw (add-zero at) refl
  answer_joined at (x ∷ xs) ys =
      ap (sample_then at (conv x)) (answer_joined (suc at) xs ys)
      ∙ sample_joined at (conv x) (row_answer conv (suc at) xs) (row_answer conv (suc at + length xs) ys)
      ∙ ap (λ (n : ℕ). and_then (sample_then at (conv x) (row_answer conv (suc at) xs)) (λ d. row_answer conv n ys)) (omega arith)

  before_joined : (o : Outcome B) (r s : List B) → sample_before o (r ++ s) ≡ sample_before o r ++ s
  before_joined (gives y) r s = refl
  before_joined (refuses m p) r s = refl

  pub results_joined : (xs ys : List A) → row_results conv (xs ++ ys) ≡ row_results conv xs ++ row_results conv ys
  unfolding row_results
  results_joined [] ys = refl
  results_joined (x ∷ xs) ys = ap (sample_before (conv x)) (results_joined xs ys) ∙ before_joined (conv x) (row_results conv xs) (row_results conv ys)

  -- places counted from n on, below 2^64
  sample_placed : (n at : ℕ) (o : Outcome B) (r : Outcome Success) → n + at < 2 ^ 64 →
      sample_then (n + at) o (placed_from n r) ≡ placed_from n (sample_then at o r)
  sample_placed n at (gives y) r h = refl
  sample_placed n at (refuses m p) r h = ap (refuses m) (sym (mod-eq_of_lt h))

  pub answer_placed : (n at : ℕ) (ys : List A) → n + at + length ys < 2 ^ 64 → row_answer conv (n + at) ys ≡ placed_from n (row_answer conv at ys)
  unfolding row_answer
  answer_placed n at [] h = refl
  answer_placed n at (y ∷ ys) h =
      ap (λ (k : ℕ). sample_then (n + at) (conv y) (row_answer conv k ys)) (sym (add-suc n at))
      ∙ ap (sample_then (n + at) (conv y)) (answer_placed n (suc at) ys (omega arith))
      ∙ sample_placed n at (conv y) (row_answer conv (suc at) ys) (omega arith)

pub output_joined : (from to : Kind) (p b : List ℕ) → left_of from p ≡ 0 → output_of from to (p ++ b) ≡ output_of from to p ++ output_of from to b
unfolding output_of
output_joined from to p b whole =
    ap (λ s. bytes_for to (row_results (bits_to to) s)) (samples_of_joined from p b whole)
    ∙ ap (bytes_for to) (results_joined (bits_to to) (samples_of from p) (samples_of from b))
    ∙ bytes_append to (row_results (bits_to to) (samples_of from p)) (row_results (bits_to to) (samples_of from b))
