-- The keys of a record's fields laid down one behind the other; and what writing then answers.
use Rattle.std.specs.Prelude.{Option, None, Some, sum_by, position}
use Rattle.std.specs.List.{prefix_len}
use borrow.Rule.Slice.PartMut.{put_mid}
use mathlib.Core.Path.{◌≡◌, refl, sym, ◌∙◌, ap}
use mathlib.Core.Bool.{Bool, true, false, not, cond}
use mathlib.Core.List.{List, [], ◌∷◌, ◌++◌, append_assoc, append-nil}
use Prim.Native.Nat.{ℕ, suc, ◌+◌, ◌-◌, ◌≤◌, ◌<◌}
use mathlib.Core.Logic.{inl, inr}
use native.Mathlib.Nat.{zero-add, add-zero}
use native.Mathlib.Numerals.{add-one}
use native.Mathlib.Omega.{arith}
use borrow.Author.Tests.{lt-ltb, le-ltb}
use lib.Dec.{ltb}
use lib.ListN.{length, take, drop, get_or, length-append, take-append-drop}
use lib.Seq.{take-suc}
use Rattle.float.proofs.Naturals.{lt_or_ge}
use Rattle.float.specs.Number.{is_none}
use Rattle.value.specs.Kinds.{kind_of, bytes_of}
use Rattle.value.specs.Meaning.{exact_of}
use Rattle.value.specs.Outcome.{Outcome, gives, refuses, refuse_if}
use Rattle.value.specs.Rules.{chain, each_of}
use Rattle.record.specs.declared.Field.{Field}
use Rattle.record.specs.declared.Record.{Record}
use Rattle.record.specs.Record.{fields_of, bad_count}
use Rattle.bytewise.specs.Numbers.{big_endian}
use Rattle.bytewise.proofs.BigEndian.{length_big}
use Rattle.key.specs.Key.{key_number, field_key, key_of, nan_rules, write_of, write_exit}
use Rattle.key.specs.Inner.{put}
use Rattle.key.proofs.NumberBytes.{length_put, put_nil, put_put, mid_put}
use Rattle.key.proofs.Summed.{sum_bytes}
use Rattle.key.proofs.FieldLists.{key_length_lem}

-- ---- the keys of the first fields

key_append : (a b : List Field) → key_of (a ++ b) ≡ key_of a ++ key_of b
unfolding key_of
key_append [] b = refl
key_append (f ∷ a) b = ap (λ (l : List ℕ). field_key f.value ++ l) (key_append a b) ∙ sym (append_assoc (field_key f.value) (key_of a) (key_of b))

key_one : (f : Field) → key_of (f ∷ []) ≡ field_key f.value
unfolding key_of
key_one f = append-nil (field_key f.value)

-- the keys of the fields up to `at` stand at the start of the buffer, and the next goes to `to`
abbrev pub Laid : List Field → List ℕ → List ℕ → ℕ → ℕ → Type 0
Laid fs old now to at =
    (to ≡ length (key_of (take at fs))) × (now ≡ put 0 (key_of (take at fs)) old) × (length now ≡ length old)

module _ (fs : List Field) (old : List ℕ) where
  pub laid_none : Laid fs old old 0 0
  unfolding key_of
  laid_none = (refl, sym (put_nil 0 old), refl)

  key_within : (at : ℕ) → length (key_of (take at fs)) ≤ length (key_of fs)
  key_within at =
      let whole : key_of fs ≡ key_of (take at fs) ++ key_of (drop at fs) = ap key_of (sym (take-append-drop at fs)) ∙ key_append (take at fs) (drop at fs) in
      omega (arith, ap length whole ∙ length-append (key_of (take at fs)) (key_of (drop at fs)))

  module _ (at : ℕ) (d : Field) (h : at < length fs) where
    key_next : key_of (take (at + 1) fs) ≡ key_of (take at fs) ++ field_key (get_or fs at d).value
    key_next =
        rw (add-one at, take-suc fs at d h) (key_append (take at fs) (get_or fs at d ∷ []))
        ∙ ap (λ (l : List ℕ). key_of (take at fs) ++ l) (key_one (get_or fs at d))

    bytes_next : length (key_of (take (at + 1) fs)) ≡ length (key_of (take at fs)) + bytes_of (kind_of (get_or fs at d).value)
    bytes_next =
        ap length key_next
        ∙ length-append (key_of (take at fs)) (field_key (get_or fs at d).value)
        ∙ ap (λ (n : ℕ). length (key_of (take at fs)) + n) (length_big (bytes_of (kind_of (get_or fs at d).value)) (key_number (get_or fs at d).value))

  module _ (room : length (key_of fs) ≤ length old) (now : List ℕ) (to at : ℕ) (laid : Laid fs old now to at) where
    -- the next field's key behind the keys up to `at`
    lay_next : (d : Field) → at < length fs
        → put (length (key_of (take at fs))) (field_key (get_or fs at d).value) (put 0 (key_of (take at fs)) old) ≡ put 0 (key_of (take (at + 1) fs)) old
    lay_next d h =
        let k : List ℕ = key_of (take at fs) in
        ap (λ (i : ℕ). put i (field_key (get_or fs at d).value) (put 0 k old)) (sym (zero-add (length k)))
        ∙ put_put 0 k old (omega (arith, key_within at)) (field_key (get_or fs at d).value)
        ∙ ap (λ (l : List ℕ). put 0 l old) (sym (key_next at d h))

    module _ (d : Field) (h : at < length fs) {w : ℕ} (w-is : w ≡ bytes_of (kind_of (get_or fs at d).value)) where
      pub laid_room : to + w ≤ length now
      laid_room = omega (arith, laid.2, laid.0, w-is, bytes_next at d h, key_within (at + 1))

      pub laid_step : {n : ℕ} → n ≡ key_number (get_or fs at d).value → {m : ℕ} → m ≡ w → {part : List ℕ} → part ≡ big_endian m n
          → Laid fs old (put_mid to (to + w - to) now part) (to + w) (at + 1)
      laid_step {n} e {m} m-is {part} q =
          let part-is : part ≡ field_key (get_or fs at d).value = q ∙ rw (m-is, e, w-is) in
          let long : length part ≡ w = ap length q ∙ length_big m n ∙ m-is in
          let whole : put_mid to (to + w - to) now part ≡ put to part now = mid_put to (to + w - to) now part (omega (arith, long)) in (
            omega (arith, laid.0, w-is, bytes_next at d h),
            whole ∙ rw (part-is, laid.0, laid.1) (lay_next d h),
            ap length whole ∙ length_put to part now (omega (arith, long, laid_room)) ∙ laid.2,
          )

-- ---- the first NaN

abbrev by_first : Option ℕ → Outcome ℕ → Outcome ℕ
by_first None next = next
by_first (Some i) next = refuses 1 i

abbrev NotNan : Field → Bool
NotNan f = not (is_none (exact_of f.value))

nan_step : (t : Bool) (i p l : ℕ) {rest : Outcome ℕ} (next : Outcome ℕ) → rest ≡ refuse_if (ltb p l) 1 (suc i + p) next
    → refuse_if t 1 i rest ≡ refuse_if (ltb (cond (not t) (1 + p) 0) (suc l)) 1 (i + cond (not t) (1 + p) 0) next
nan_step true i p l next q = let h : 0 < suc l = omega arith in rw (lt-ltb 0 (suc l) h, add-zero i)
nan_step false i p l next q =
    let e : suc i + p ≡ i + (1 + p) = omega arith in
    elim (lt_or_ge p l) [
      | inl h ↦ let k : 1 + p < suc l = omega arith in q ∙ rw (lt-ltb p l h, lt-ltb (1 + p) (suc l) k, e)
      | inr h ↦ let k : suc l ≤ 1 + p = omega arith in q ∙ rw (le-ltb p l h, le-ltb (1 + p) (suc l) k)
    ]

nan_from : (i : ℕ) (fs : List Field) (next : Outcome ℕ)
    → chain (nan_rules i fs) next ≡ refuse_if (ltb (prefix_len NotNan fs) (length fs)) 1 (i + prefix_len NotNan fs) next
unfolding each_of
nan_from i [] next = refl
nan_from i (f ∷ fs) next = nan_step (is_none (exact_of f.value)) i (prefix_len NotNan fs) (length fs) next (nan_from (suc i) fs next)

by_position : (t : Bool) (p : ℕ) {first : Option ℕ} (next : Outcome ℕ) → first ≡ cond t (Some p) None → refuse_if t 1 p next ≡ by_first first next
by_position true p next q = sym (ap (λ (o : Option ℕ). by_first o next) q)
by_position false p next q = sym (ap (λ (o : Option ℕ). by_first o next) q)

nan_chain : (fs : List Field) {first : Option ℕ} (next : Outcome ℕ) → first ≡ position (λ (f : Field). is_none (exact_of f.value)) fs
    → chain (nan_rules 0 fs) next ≡ by_first first next
nan_chain fs next q =
    nan_from 0 fs next ∙ ap (λ (p : ℕ). refuse_if (ltb (prefix_len NotNan fs) (length fs)) 1 p next) (zero-add (prefix_len NotNan fs))
    ∙ by_position (ltb (prefix_len NotNan fs) (length fs)) (prefix_len NotNan fs) next q

-- ---- what writing answers, and what the buffer then holds

module _ (r : Record) (old : List ℕ) where
  refused_exit : (m p : ℕ) → refuses m p ≡ write_of r (length old) → old ≡ write_exit r old
  unfolding write_exit
  refused_exit m p q = rw (← q)

  refused_answers : (m p : ℕ) → refuses m p ≡ write_of r (length old) → (refuses m p ≡ write_of r (length old)) × (old ≡ write_exit r old)
  refused_answers m p q = (q, refused_exit m p q)

  module _ {t : Bool} (count_is : t ≡ bad_count r.count) where
    pub write_bad_count : t ≡ true → (refuses 11 0 ≡ write_of r (length old)) × (old ≡ write_exit r old)
    unfolding write_of
    write_bad_count f = refused_answers 11 0 (rw (← count_is, f))

    module _ (count_good : t ≡ false) {n : ℕ} (n-is : n ≡ sum_by (λ (f : Field). bytes_of (kind_of f.value)) (fields_of r)) where
      pub length_is : n ≡ length (key_of (fields_of r))
      length_is = n-is ∙ sum_bytes (λ (f : Field). kind_of f.value) (fields_of r) ∙ sym (key_length_lem (fields_of r))

      past_count : refuse_if (ltb (length old) n) 10 0 (chain (nan_rules 0 (fields_of r)) (gives n)) ≡ write_of r (length old)
      unfolding write_of
      past_count = rw (← count_is, count_good, length_is)

      pub write_short : length old < n → (refuses 10 0 ≡ write_of r (length old)) × (old ≡ write_exit r old)
      write_short h = refused_answers 10 0 (sym (rw (lt-ltb (length old) n h)) ∙ past_count)

      module _ (room : n ≤ length old) {first : Option ℕ} (first-is : first ≡ position (λ (f : Field). is_none (exact_of f.value)) (fields_of r)) where
        past_room : by_first first (gives n) ≡ write_of r (length old)
        past_room = sym (nan_chain (fields_of r) (gives n) first-is) ∙ sym (rw (le-ltb (length old) n room)) ∙ past_count

        pub write_nan : {at : ℕ} → first ≡ Some at → (refuses 1 at ≡ write_of r (length old)) × (old ≡ write_exit r old)
        write_nan {at} q = refused_answers 1 at (sym (ap (λ (o : Option ℕ). by_first o (gives n)) q) ∙ past_room)

        pub write_done : first ≡ None → {now : List ℕ} → now ≡ put 0 (key_of (fields_of r)) old
            → (gives n ≡ write_of r (length old)) × (now ≡ write_exit r old)
        unfolding write_exit put
        write_done q e =
            let a : gives n ≡ write_of r (length old) = sym (ap (λ (o : Option ℕ). by_first o (gives n)) q) ∙ past_room in
            (a, e ∙ rw (← a, zero-add))
