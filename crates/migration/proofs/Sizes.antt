-- A block of samples has room in both buffers, whatever its kinds are.
use Prim.Native.Nat.{ℕ, ◌*◌, ◌/◌, ◌%◌, ◌≤◌, ◌<◌}
use native.Mathlib.Nat.{le_trans, le_of_lt, mul-le-mul_left, mul-le-mul_right, div-mul-le_self, le-div_iff_mul-le, mul-div_cancel, mul-mod_left, mul-pos}
use native.Mathlib.Omega.{arith}
use mathlib.Core.Logic.{inl, inr}
use mathlib.Core.Path.{◌≡◌, refl, ap, subst}
use lib.Dec.{lit<}
use borrow.Author.Tests.{lt-ltb, le-ltb}
use Rattle.float.proofs.Naturals.{lt_or_ge}
use Rattle.value.specs.declared.Kind.{Kind}
use Rattle.value.specs.Kinds.{bytes_of}
use Rattle.value.proofs.Widths.{bytes_range}
use Rattle.block.specs.Migrate.{row_places}
use Rattle.migration.specs.Sizes.{buffer_bytes, block_samples, block_bytes}

-- n samples, of u bytes or of w bytes: some, and both buffers have room for them
abbrev pub BothHold : ℕ → ℕ → ℕ → Type 0
BothHold n u w = (0 < n) × (n * u ≤ buffer_bytes) × (n * w ≤ buffer_bytes)

-- as many as are read at once
abbrev pub Fit : ℕ → ℕ → ℕ → Type 0
Fit n u w = (n ≡ block_samples u w) × BothHold n u w

-- what is asked of their bytes
pub samples_room : (n u w : ℕ) → 0 < u → Fit n u w
    → (n * u ≡ block_samples u w * u) × ((0 < n * u) × ((n * u % u ≡ 0) × ((n * u ≤ buffer_bytes) × (n * u / u * w ≤ buffer_bytes))))
samples_room n u w some fit = (
  ap (λ (k : ℕ). k * u) fit.0,
  (mul-pos fit.1.0 some, (mul-mod_left n u, (fit.1.1, rw (mul-div_cancel n some) fit.1.2))),
)

-- samples that become wider
pub wider_fit : (n u w : ℕ) → n ≡ buffer_bytes / w → u < w → w ≤ 8 → Fit n u w
wider_fit n u w q less few =
    let some : 0 < w = omega (arith, less) in
    let one : 1 * w ≤ buffer_bytes = omega (arith, few) in
    let full : n * w ≤ buffer_bytes = rw q (div-mul-le_self buffer_bytes w) in
    (rw (lt-ltb u w less) q, (rw q ((le-div_iff_mul-le some).1 one), le_trans (mul-le-mul_left n (le_of_lt less)) full, full))

-- as many of any two kinds as a row has places
pub row_fit : (n u w : ℕ) → n ≡ row_places → w ≤ u → u ≤ 8 → Fit n u w
row_fit n u w q most few = (rw (le-ltb u w most) q, rw q (lit< tt, omega (arith, few), omega (arith, most, few)))

-- the number itself
own_fit : (n u w : ℕ) → Fit n u w → Fit (block_samples u w) u w
own_fit n u w fit = subst (λ (k : ℕ). Fit k u w) fit.0 fit

-- what is read at once, of any two kinds: whole samples, with room in both buffers
pub block_room : (from to : Kind) → (block_bytes from to % bytes_of from ≡ 0) × (block_bytes from to / bytes_of from * bytes_of to ≤ buffer_bytes)
block_room from to =
    let u = bytes_of from in
    let w = bytes_of to in
    let fit : Fit (block_samples u w) u w = elim (lt_or_ge u w) [
      | inl less ↦ own_fit (buffer_bytes / w) u w (wider_fit (buffer_bytes / w) u w refl less (bytes_range to).1)
      | inr most ↦ own_fit row_places u w (row_fit row_places u w refl most (bytes_range from).1)
    ] in
    let r = samples_room (block_samples u w) u w (bytes_range from).0 fit in
    (r.1.1.0, r.1.1.1.1)

-- fewer bytes
pub fewer_room : (b s u w : ℕ) → 0 < u → b ≤ s → s / u * w ≤ buffer_bytes → b / u * w ≤ buffer_bytes
fewer_room b s u w some less room = le_trans (mul-le-mul_right w ((le-div_iff_mul-le some).1 (le_trans (div-mul-le_self b u) less))) room
