-- Lines laid down one behind the other.
use mathlib.Core.Path.{◌≡◌, ◌∙◌, ap}
use mathlib.Core.List.{List, [], ◌∷◌, ◌++◌}
use Prim.Native.Nat.{ℕ, ◌+◌}
use Prim.Native.String.{String}
use native.Mathlib.Omega.{arith}
use lib.ListN.{length, length-append}
use Rattle.sheet.specs.Lines.{ascii, line_of}

-- a page that has this text has it still with a line behind it
pub behind : {page new : List ℕ} (text : List ℕ) (name : String) (said : List ℕ) → page ≡ text → new ≡ page ++ line_of (ascii name) said
    → new ≡ text ++ line_of (ascii name) said
behind text name said p q = q ∙ ap (λ (x : List ℕ). x ++ line_of (ascii name) said) p

-- how long a page is with a line of so many digits behind it
pub line_long : (page name said : List ℕ) {new : List ℕ} → new ≡ page ++ line_of name said → length new ≡ length page + (length name + (length said + 1))
line_long page name said q =
    ap length q ∙ length-append page (line_of name said)
    ∙ ap (λ n. length page + n)
    (length-append (name ++ said) (10 ∷ []) ∙ ap (λ n. n + 1) (length-append name said) ∙ omega arith)
