-- A run goes on only behind a full block, and what is asked for at once is whole samples. So the blocks of a run are such as the theorem on sheets
-- speaks of, and what it tells is the sheet of those.
use Prim.Native.Nat.{ℕ, ◌%◌, ◌<◌}
use native.Mathlib.Omega.{arith}
use mathlib.Core.Bool.{Bool, true, false}
use mathlib.Core.List.{List, [], ◌∷◌}
use mathlib.Core.Path.{◌≡◌, refl, sym, ◌∙◌, ap, subst}
use borrow.Author.Tests.{eqb-true}
use lib.Dec.{eqb}
use lib.ListN.{length}
use Rattle.value.specs.declared.Kind.TheVariants.{F32}
use Rattle.sample.specs.Samples as whole
use Rattle.sample.specs.Samples.{left_of, joined}
use Rattle.input.proofs.Chains.{built_up, shape, folded, leads}
use Rattle.strip.specs.declared.Sheet.{Sheet}
use Rattle.strip.specs.Sheet.{sheet_after}
use Rattle.strip.specs.SheetTheorem.{blank, sheet_of, SheetTells}
use Rattle.strip.proofs.Told.{sheets_tell}
use Rattle.sheet.specs.declared.runs.Telling.{Telling}
use Rattle.sheet.specs.Runs.{block_bytes, turns_left, TellsBlock, RunTells}

-- a run goes on only behind a full block
full_before : (turns samples : ℕ) (full : Bool) → 0 < turns_left turns full samples → full ≡ true
full_before turns samples true h = refl
full_before turns samples false h = absurd (omega (arith, h))

-- which has whole samples
asked_whole : (samples : ℕ) → block_bytes samples % 4 ≡ 0
asked_whole samples = omega arith

ends_whole : (r next : Telling) (block : List ℕ) → TellsBlock r block next → 0 < next.turns → left_of F32 block ≡ 0
ends_whole r next block told some =
    let before = r.sheet.samples in
    let full = full_before r.turns next.sheet.samples (eqb (length block) (block_bytes before)) (subst (λ (t : ℕ). 0 < t) told.3 some) in
    ap (λ (n : ℕ). n % 4) (eqb-true _ _ full) ∙ asked_whole before

sheet_folded : (bs : List (List ℕ)) (s : Sheet) → folded sheet_after s bs ≡ sheet_of s bs
sheet_folded [] s = refl
sheet_folded (b ∷ bs) s = sheet_folded bs (sheet_after s b)

pub run_tells : RunTells
run_tells bs r ran =
    let shaped = built_up {R = whole.WholeBlocks F32} whole.none (λ b p. whole.last b) (λ b bs p. whole.more b bs)
    (shape {P = λ b. Unit {0}} (λ s next b t. tt) ends_whole (λ s next f. f.2) ran) in
    let led : sheet_of blank bs ≡ r.sheet =
    sym (sheet_folded bs blank) ∙ leads sheet_after (λ s. s.sheet) (λ s next b t. sym t.1) (λ s next f. sym f.0) ran in
    subst (SheetTells (joined bs)) led (sheets_tell bs shaped)
