-- Strings of bytes joined where whole samples end: counts add up, and numbers and samples are joined.
use mathlib.Core.Path.{◌≡◌, refl, sym, ◌∙◌, ap}
use mathlib.Core.List.{List, [], ◌∷◌, ◌++◌, map-append}
use Prim.Native.Nat.{ℕ, zero, suc, ◌+◌, ◌*◌, ◌/◌, ◌%◌, ◌^◌, ◌≤◌, ◌<◌}
use native.Mathlib.Nat.{zero-add, add-zero, add_comm, suc-add, suc-mul, zero-mul, zero-div, div-add-mod', div-le_self, add-mul-div_right}
use native.Mathlib.Nat.{add-mul-mod_self_right, lt_of_le_of_lt}
use native.Mathlib.Omega.{arith}
use lib.ListN.{length, drop, length-append, length-drop}
use lib.Seq.{take-append-le, drop-append-le}
use Rattle.value.specs.declared.Kind.{Kind}
use Rattle.value.specs.Kinds.{bytes_of}
use Rattle.value.specs.Meaning.{value_of}
use Rattle.value.proofs.Widths.{bytes_range}
use Rattle.sample.specs.Samples.{numbers_in, count_of, left_of, samples_in, samples_of}
use Rattle.sample.proofs.Samplings.{samples_numbers}

numbers_joined : (w n m : ℕ) (p b : List ℕ) → length p ≡ n * w → numbers_in w (n + m) (p ++ b) ≡ numbers_in w n p ++ numbers_in w m b
unfolding numbers_in
numbers_joined w zero m [] b h = rw (zero-add m) refl
numbers_joined w zero m (x ∷ p) b h = absurd (omega (arith, h, zero-mul w))
numbers_joined w (suc n) m p b h =
    let l : length p ≡ n * w + w = h ∙ suc-mul n w in
    let inside : w ≤ length p = omega (arith, l) in
    let rest : length (drop w p) ≡ n * w = length-drop w p ∙ omega (arith, l) in
    rw (suc-add n m, take-append-le w p b inside, drop-append-le w p b inside, numbers_joined w n m (drop w p) b rest) refl

-- the numbers of all whole samples
abbrev pub numbers_of : Kind → List ℕ → List ℕ
numbers_of k bytes = numbers_in (bytes_of k) (count_of k bytes) bytes

module _ (k : Kind) where
  module _ (p b : List ℕ) (whole : left_of k p ≡ 0) where
    whole_length : length p ≡ count_of k p * bytes_of k
    whole_length = sym (div-add-mod' (length p) (bytes_of k)) ∙ ap (λ (r : ℕ). count_of k p * bytes_of k + r) whole ∙ add-zero (count_of k p * bytes_of k)

    joined_length : length (p ++ b) ≡ length b + count_of k p * bytes_of k
    joined_length = length-append p b ∙ add_comm (length p) (length b) ∙ ap (λ (n : ℕ). length b + n) whole_length

    pub count_joined : count_of k (p ++ b) ≡ count_of k p + count_of k b
    count_joined = ap (λ (n : ℕ). n / bytes_of k) joined_length
        ∙ add-mul-div_right (length b) (count_of k p) (bytes_range k).0
        ∙ add_comm (count_of k b) (count_of k p)

    pub left_joined : left_of k (p ++ b) ≡ left_of k b
    left_joined = ap (λ (n : ℕ). n % bytes_of k) joined_length ∙ add-mul-mod_self_right (length b) (count_of k p) (bytes_of k)

    pub numbers_of_joined : numbers_of k (p ++ b) ≡ numbers_of k p ++ numbers_of k b
    numbers_of_joined =
        ap (λ (n : ℕ). numbers_in (bytes_of k) n (p ++ b)) count_joined ∙ numbers_joined (bytes_of k) (count_of k p) (count_of k b) p b whole_length

    pub samples_of_joined : samples_of k (p ++ b) ≡ samples_of k p ++ samples_of k b
    samples_of_joined =
        rw (samples_numbers k (count_of k (p ++ b)) (p ++ b), samples_numbers k (count_of k p) p, samples_numbers k (count_of k b) b, numbers_of_joined)
        (map-append (value_of k) (numbers_of k p) (numbers_of k b))

  -- no more samples than bytes
  pub small : (p : List ℕ) → length p < 2 ^ 64 → count_of k p < 2 ^ 64
  small p h = lt_of_le_of_lt (div-le_self (length p) (bytes_of k)) h

  pub no_samples : samples_of k [] ≡ []
  unfolding samples_in
  no_samples = ap (λ (n : ℕ). samples_in k n []) (zero-div (bytes_of k))
