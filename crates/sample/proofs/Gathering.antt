-- A number in bytes, low byte first, read from the high byte down.
use mathlib.Core.Path.{◌≡◌, refl, sym, ◌∙◌, ap}
use mathlib.Core.List.{List, [], ◌∷◌, ◌++◌, append-nil}
use Prim.Native.Nat.{ℕ, ◌+◌, ◌*◌, ◌^◌, ◌≤◌, ◌<◌}
use native.Mathlib.Nat.{pow-suc, pow-le-pow_right, lt_of_lt_of_le, zero-lt-suc}
use native.Mathlib.Omega.{arith}
use lib.ListN.{length, length-append}
use lib.Seq.{append_snoc}
use Rattle.std.specs.List.{push}
use Rattle.bytewise.specs.Numbers.{from_little_endian}

-- what is taken of the bytes makes n, and the rest is to come
pub record Gathered (bytes rest : List ℕ) (n : ℕ) : Type 0 where
  taken : List ℕ
  joined : rest ++ taken ≡ bytes
  made : n ≡ from_little_endian taken
  below : n < 256 ^ length taken

module _ (bytes : List ℕ) where
  pub gather_none : Gathered bytes bytes 0
  unfolding from_little_endian
  gather_none = record { taken = []; joined = append-nil bytes; made = refl; below = omega arith }

  module _ {rest : List ℕ} {n : ℕ} (g : Gathered bytes rest n) where
    pub gather_more : {left : List ℕ} {x : ℕ} → rest ≡ push left x → x < 256 → Gathered bytes left (n * 256 + x)
    unfolding from_little_endian
    gather_more {left} {x} q byte = record {
      taken = x ∷ g.taken;
      joined = sym (append_snoc left x g.taken) ∙ sym (ap (λ (l : List ℕ). l ++ g.taken) q) ∙ g.joined;
      made = ap (λ (m : ℕ). m * 256 + x) g.made;
      below = rw (pow-suc 256 (length g.taken)) (let b = g.below in omega (arith, b));
    }

    -- with a byte more it fits a word
    pub gather_room : (left : List ℕ) (x : ℕ) → rest ≡ push left x → length bytes ≤ 8 → n < 256 ^ 7
    gather_room left x q l =
        let k = sym (length-append rest g.taken) ∙ ap length g.joined in
        let m = ap length q ∙ length-append left (x ∷ []) in
        let few : length g.taken ≤ 7 = omega (arith, k, m, l) in
        lt_of_lt_of_le g.below (pow-le-pow_right (zero-lt-suc 255) few)

    pub gather_end : length rest ≡ 0 → n ≡ from_little_endian bytes
    gather_end h = g.made ∙ ap from_little_endian (all rest h g.joined)
      where
        all : (l : List ℕ) → length l ≡ 0 → l ++ g.taken ≡ bytes → g.taken ≡ bytes
        all [] e q = q
        all (x ∷ l) e q = absurd (omega arith)
