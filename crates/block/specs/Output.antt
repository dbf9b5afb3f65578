-- Samples laid into bytes, low byte first. RULES.md: Migration.
use Rattle.std.specs.Prelude.{ℕ, List, [], ◌∷◌, ◌++◌}
use Rattle.value.specs.declared.Kind.{Kind}
use Rattle.value.specs.Kinds.{bytes_of}
use Rattle.bytewise.specs.Numbers.{little_endian}

-- the bytes of samples that have these bits
unfoldable pub bytes_for : Kind → List ℕ → List ℕ
bytes_for k [] = []
bytes_for k (b ∷ bs) = little_endian (bytes_of k) b ++ bytes_for k bs
