-- Runs, turn by turn.
use Rattle.std.specs.Prelude.{None}
use Prim.Native.Nat.{ℕ, ◌<◌}
use mathlib.Core.Logic.{inl, inr}
use mathlib.Core.List.{List, [], ◌∷◌, ◌++◌}
use mathlib.Core.Path.{◌≡◌, refl}
use Rattle.value.specs.declared.Kind.{Kind}
use Rattle.block.specs.declared.Progress.{Progress}
use Rattle.look.specs.declared.Seen.{Seen}
use Rattle.look.specs.Report.{nothing_seen}
use Rattle.input.specs.Chain.{all_turns, begins, takes, fails}
use Rattle.std.specs.Prelude.{None}
use Rattle.migration.specs.declared.blocks.State.{State}
use Rattle.migration.specs.declared.looks.Look.{Look}
use Rattle.migration.specs.Inner.{Stepped, Looked}
use Rattle.migration.specs.Runs.{beginning, handed, Ran, LookedThrough}

module _ (from to : Kind) where
  -- some blocks led here
  abbrev pub Reaches : State → Type 0
  Reaches s = (bs : List (List ℕ)) × (written : List ℕ) × Ran from to bs (record { state = s; written = written })

  -- none led to the beginning
  pub at_beginning : (p : Progress) → p ≡ beginning.state.progress
      → Reaches (record { progress = p; sample = None; fault = None; turns = all_turns })
  at_beginning p q = rw q ([], [], begins)

  -- a turn leads on
  pub next_turn : (s next : State) (buffer old out : List ℕ) → Reaches s → 0 < s.turns → Stepped from to s buffer old out next → Reaches next
  next_turn s next buffer old out (bs, written, ran) some (inl failed) =
      (bs, written, fails bs (record { state = s; written = written }) (record { state = next; written = written }) ran some (failed.0, refl))
  next_turn s next buffer old out (bs, written, ran) some (inr (block, into, moved)) =
      let more = written ++ handed from to block out next.progress.answer in (
        bs ++ (block ∷ []),
        more,
        takes bs (record { state = s; written = written }) (record { state = next; written = more }) block ran some (into.1, old, out, moved, refl),
      )

  abbrev pub LooksTo : Look → Type 0
  LooksTo s = (bs : List (List ℕ)) × LookedThrough from to bs s

  pub unlooked : (s : Seen) → s ≡ nothing_seen → LooksTo (record { seen = s; fault = None; turns = all_turns })
  unlooked s q = rw q ([], begins)

  pub next_look : (s next : Look) (buffer : List ℕ) → LooksTo s → 0 < s.turns → Looked from to s buffer next → LooksTo next
  next_look s next buffer (bs, ran) some (inl failed) = (bs, fails bs s next ran some failed)
  next_look s next buffer (bs, ran) some (inr (block, into, looked)) = (bs ++ (block ∷ []), takes bs s next block ran some (into.1, looked))
