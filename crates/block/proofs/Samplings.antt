-- The bytes that samples make.
use Rattle.std.proofs.Common.{◌≡◌, ℕ, zero, suc, ◌+◌, ◌*◌, ◌/◌, ◌<◌, ◌≤◌, List, [], ◌∷◌, ◌++◌, map, length, get_or, take, drop, sym, refl, ap, ◌∙◌}
use Rattle.std.proofs.Common.{append_assoc, append-nil, suc-mul, add_comm, le-div_iff_mul-le, zero-mul, arith, length-append, length-take-le}
use Rattle.std.proofs.Common.{take_all, drop-cons, take-add}
use lib.ListN.{length-map}
use lib.Seq.{sets, length-sets}
use Rattle.value.specs.declared.Kind.{Kind}
use Rattle.value.specs.Kinds.{bytes_of}
use Rattle.value.proofs.Widths.{bytes_range}
use Rattle.bytewise.specs.Numbers.{little_endian}
use Rattle.block.specs.Output.{bytes_for}
use Rattle.bytewise.proofs.Laid.{sets_append}
use Rattle.bytewise.proofs.LittleEndian.{length_little}

pub room_inside : (k : Kind) {n l : ℕ} → n ≤ l / bytes_of k → n * bytes_of k ≤ l
room_inside k h = (le-div_iff_mul-le (bytes_range k).0).0 h

-- ---- bytes

pub length_bytes : (k : Kind) (bs : List ℕ) → length (bytes_for k bs) ≡ length bs * bytes_of k
unfolding bytes_for
length_bytes k [] = sym (zero-mul (bytes_of k))
length_bytes k (b ∷ bs) =
    length-append (little_endian (bytes_of k) b) (bytes_for k bs)
    ∙ ap (λ (m : ℕ). m + length (bytes_for k bs)) (length_little (bytes_of k) b)
    ∙ ap (λ (m : ℕ). bytes_of k + m) (length_bytes k bs)
    ∙ add_comm (bytes_of k) (length bs * bytes_of k)
    ∙ sym (suc-mul (length bs) (bytes_of k))

pub bytes_append : (k : Kind) (a b : List ℕ) → bytes_for k (a ++ b) ≡ bytes_for k a ++ bytes_for k b
unfolding bytes_for
bytes_append k [] b = refl
bytes_append k (x ∷ a) b =
    ap (λ (l : List ℕ). little_endian (bytes_of k) x ++ l) (bytes_append k a b)
    ∙ sym (append_assoc (little_endian (bytes_of k) x) (bytes_for k a) (bytes_for k b))

bytes_one : (k : Kind) (b : ℕ) → bytes_for k (b ∷ []) ≡ little_endian (bytes_of k) b
unfolding bytes_for
bytes_one k b = append-nil (little_endian (bytes_of k) b)

-- ---- a piece of a list

module _ {A : Type 0} (f : A → ℕ) where
  map_drop : (i : ℕ) (l : List A) → map f (drop i l) ≡ drop i (map f l)
  map_drop zero l = refl
  map_drop (suc i) [] = refl
  map_drop (suc i) (x ∷ l) = map_drop i l

  map_take : (j : ℕ) (l : List A) → map f (take j l) ≡ take j (map f l)
  map_take zero l = refl
  map_take (suc j) [] = refl
  map_take (suc j) (x ∷ l) = ap (λ (m : List ℕ). f x ∷ m) (map_take j l)

  map_piece : (i j : ℕ) (l : List A) → map f (take j (drop i l)) ≡ take j (drop i (map f l))
  map_piece i j l = map_take j (drop i l) ∙ ap (take j) (map_drop i l)

-- ---- samples laid into a buffer from a place on: the first i conversions are there

module _ {A : Type 0} (k : Kind) (f : A → ℕ) (s : List A) (old : List ℕ) (from : ℕ) where
  abbrev pub Filled : List ℕ → ℕ → Type 0
  Filled now i = (length now ≡ length old) × (now ≡ sets old from (bytes_for k (take i (map f s))))

  pub fill_none : Filled old 0
  unfolding bytes_for
  fill_none = (refl, refl)

  -- and some more
  pub fill_piece : (i j : ℕ) → i ≤ length s → (now : List ℕ) (place : ℕ) → place ≡ from + i * bytes_of k → Filled now i
      → {new : List ℕ} → new ≡ sets now place (bytes_for k (map f (take j (drop i s)))) → Filled new (i + j)
  fill_piece i j h now place p g e =
      let filled = bytes_for k (take i (map f s)) in
      let piece = bytes_for k (map f (take j (drop i s))) in
      let size : length filled ≡ i * bytes_of k =
      length_bytes k (take i (map f s)) ∙ ap (λ (m : ℕ). m * bytes_of k) (length-take-le i (map f s) (rw (length-map s f) h)) in
      let here : place ≡ from + length filled = p ∙ ap (λ (m : ℕ). from + m) (sym size) in
      let whole : filled ++ piece ≡ bytes_for k (take (i + j) (map f s)) =
      sym (ap (bytes_for k) (take-add i j (map f s))
      ∙ bytes_append k (take i (map f s)) (take j (drop i (map f s)))
      ∙ ap (λ (l : List ℕ). filled ++ bytes_for k l) (sym (map_piece f i j s))) in (
        ap length e ∙ length-sets now place piece ∙ g.0,
        e ∙ rw (g.1, here) refl ∙ sets_append filled piece old from ∙ ap (sets old from) whole,
      )

  pub fill_step : (i : ℕ) (d : A) → i < length s → {v : A} → get_or s i d ≡ v → {b : ℕ} → b ≡ f v → (now : List ℕ) (place u : ℕ)
      → place ≡ from + i * bytes_of k → u ≡ bytes_of k → Filled now i
      → {new : List ℕ} → new ≡ sets now place (little_endian u b) → Filled new (i + 1)
  fill_step i d h v-is {b} b-is now place u p q g e =
      let one : take 1 (drop i s) ≡ get_or s i d ∷ [] = ap (take 1) (drop-cons s i d h) in
      let laid : little_endian u b ≡ bytes_for k (map f (take 1 (drop i s))) =
      ap (λ (w : ℕ). little_endian w b) q
      ∙ ap (little_endian (bytes_of k)) (b-is ∙ ap f (sym v-is))
      ∙ sym (bytes_one k (f (get_or s i d)))
      ∙ ap (λ (l : List A). bytes_for k (map f l)) (sym one) in
      fill_piece i 1 (omega arith) now place p g (e ∙ ap (sets now place) laid)

  pub fill_end : (now : List ℕ) (i : ℕ) → length s ≤ i → Filled now i → now ≡ sets old from (bytes_for k (map f s))
  fill_end now i h g = g.1 ∙ ap (λ (l : List ℕ). sets old from (bytes_for k l)) (take_all i (map f s) (rw (length-map s f) h))
