-- The bits of a kind's samples fill one to eight whole bytes.
use mathlib.Core.Path.{◌≡◌, refl}
use Prim.Native.Nat.{ℕ, ◌/◌, ◌^◌, ◌≤◌, ◌<◌}
use native.Mathlib.Omega.{arith}
use lib.Dec.{lit≤}
use Rattle.value.specs.Kinds.{Form, form_of, width_in, width_of, bytes_of}
use Rattle.value.specs.declared.Kind.{Kind}
use Rattle.value.specs.declared.Kind.TheVariants as kind

abbrev pub Sized : Form → Type 0
Sized form = (8 ≤ width_in form) × (width_in form ≤ 64) × (256 ^ (width_in form / 8) ≡ 2 ^ width_in form)

pub kind_sized : (k : Kind) → Sized (form_of k)
kind_sized kind.U8 = (lit≤ tt, lit≤ tt, refl)
kind_sized kind.U16 = (lit≤ tt, lit≤ tt, refl)
kind_sized kind.U32 = (lit≤ tt, lit≤ tt, refl)
kind_sized kind.U64 = (lit≤ tt, lit≤ tt, refl)
kind_sized kind.I8 = (lit≤ tt, lit≤ tt, refl)
kind_sized kind.I16 = (lit≤ tt, lit≤ tt, refl)
kind_sized kind.I32 = (lit≤ tt, lit≤ tt, refl)
kind_sized kind.I64 = (lit≤ tt, lit≤ tt, refl)
kind_sized kind.F32 = (lit≤ tt, lit≤ tt, refl)
kind_sized kind.F64 = (lit≤ tt, lit≤ tt, refl)
kind_sized kind.F16 = (lit≤ tt, lit≤ tt, refl)

-- ---- bytes

pub eighth_range : (w : ℕ) → 8 ≤ w → w ≤ 64 → (0 < w / 8) × (w / 8 ≤ 8)
eighth_range w h l = (omega arith, omega arith)

pub bytes_range : (k : Kind) → (0 < bytes_of k) × (bytes_of k ≤ 8)
bytes_range k = eighth_range (width_of k) (kind_sized k).0 (kind_sized k).1
