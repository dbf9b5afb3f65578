-- The last of the eight bytes of n.
use mathlib.Core.Path.{◌∙◌, ap}
use mathlib.Core.List.{List}
use Prim.Native.Nat.{ℕ, ◌-◌}
use lib.ListN.{length, take, drop}
use Rattle.key.proofs.NumberBytes.{last_bytes}
use Rattle.key.proofs.writing.write_number.Goals as goal

pub returns : goal.returns
returns c =
    let k = length c.args.bytes.now in
    c.copy_from_slice.ensures.after ∙ ap (λ (l : List ℕ). take (8 - (8 - k)) (drop (8 - k) l)) c.to_be_bytes.ensures ∙ last_bytes k c.args.n c.requires
