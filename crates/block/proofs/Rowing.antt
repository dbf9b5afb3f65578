-- A block that is laid out as a row: the row's conversion of each sample is the block's, so what the row call answers is the block's answer.
use Rattle.std.proofs.Common.{◌≡◌, ℕ, suc, ◌+◌, ◌*◌, ◌/◌, ◌^◌, ◌<◌, ◌≤◌, Bool, not, List, [], ◌∷◌, map, length, get_or, drop, sym, refl, ap, ◌∙◌}
use Rattle.std.proofs.Common.{arith, get_or-drop, eq-eqb}
use native.Mathlib.Nat.{suc_inj}
use lib.ListN.{length-map, get_or-map}
use lib.Seq.{sets}
use Rattle.value.specs.declared.Kind.{Kind}
use Rattle.value.specs.declared.Value.TheVariants.{U8}
use Rattle.value.specs.Meaning.{value_of}
use Rattle.value.specs.Outcome.{Outcome, gives, refuses, refuse_if, mapped, Success, done}
use Rattle.value.proofs.Outcomes.{given_fills}
use Rattle.std.proofs.Common.{false}
use Rattle.row.specs.Row.{any, row_answer, row_results, sample_then, sample_before}
use Rattle.row.specs.Convert.{convert_answer, convert_exit}
use Rattle.row.proofs.ConvertRow.{always_done}
use Rattle.value.specs.Kinds.{bytes_of}
use Rattle.sample.specs.Samples.{count_of, samples_of, numbers_in}
use Rattle.sample.specs.Refusals.{bits_to}
use Rattle.bytewise.proofs.LittleEndian.{number_below}
use Rattle.sample.proofs.Samplings.{length_samples, sample_here, length_numbers, number_here}
use Rattle.block.specs.Output.{bytes_for}
use Rattle.block.specs.Migrate.{block_answer}
use Rattle.row.proofs.Rows.{results_length}
use Rattle.block.proofs.Blocks.{BlockAnswers, block_refused, block_output}

pub map_same : (l : List ℕ) → map (λ (n : ℕ). n) l ≡ l
map_same [] = refl
map_same (x ∷ xs) = ap (λ (l : List ℕ). x ∷ l) (map_same xs)

pub map_both : {A B C : Type 0} (g : B → C) (f : A → B) (l : List A) → map g (map f l) ≡ map (λ (x : A). g (f x)) l
map_both g f [] = refl
map_both {A} {B} {C} g f (x ∷ xs) = ap (λ (l : List C). g (f x) ∷ l) (map_both g f xs)

pub map_three : {A B C D : Type 0} (h : C → D) (g : B → C) (f : A → B) (l : List A) → map h (map g (map f l)) ≡ map (λ (x : A). h (g (f x))) l
map_three h g f l = ap (map h) (map_both g f l) ∙ map_both h (λ x. g (f x)) l

pub any_never : {A : Type 0} (l : List A) → any (λ x. false) l ≡ false
unfolding any
any_never [] = refl
any_never (x ∷ xs) = any_never xs

-- ---- one conversion or the other, sample by sample

module _ {A B C D : Type 0} (f : A → Outcome B) (g : C → Outcome D) (enc : D → B) (d : A) (e : C) where
  abbrev pub Agree : List A → List C → Type 0
  Agree vs xs = (i : ℕ) → i < length xs → f (get_or vs i d) ≡ mapped enc (g (get_or xs i e))

  same_then : (at : ℕ) (o : Outcome D) (r : Outcome Success) → sample_then at (mapped enc o) r ≡ sample_then at o r
  same_then at (gives y) r = refl
  same_then at (refuses m p) r = refl

  same_before : (o : Outcome D) (l : List D) → sample_before (mapped enc o) (map enc l) ≡ map enc (sample_before o l)
  same_before (gives y) l = refl
  same_before (refuses m p) l = refl

  pub rows_agree : (at : ℕ) (vs : List A) (xs : List C) → length vs ≡ length xs → Agree vs xs
      → (row_answer f at vs ≡ row_answer g at xs) × (row_results f vs ≡ map enc (row_results g xs))
  unfolding row_answer row_results
  rows_agree at [] [] h p = (refl, refl)
  rows_agree at [] (x ∷ xs) h p = absurd (omega arith)
  rows_agree at (v ∷ vs) [] h p = absurd (omega arith)
  rows_agree at (v ∷ vs) (x ∷ xs) h p =
      let q : f v ≡ mapped enc (g x) = p 0 (omega arith) in
      let r = rows_agree (suc at) vs xs (suc_inj h) (λ i l. p (suc i) (omega arith)) in (
        ap (λ o. sample_then at o (row_answer f (suc at) vs)) q ∙ same_then at (g x) (row_answer f (suc at) vs) ∙ ap (sample_then at (g x)) r.0,
        ap (λ o. sample_before o (row_results f vs)) q ∙ ap (sample_before (mapped enc (g x))) r.1 ∙ same_before (g x) (row_results g xs),
      )

-- ---- the block by its row

module _ (from to : Kind) (src old : List ℕ) {A B : Type 0} (conv : A → Outcome B) (enc : B → ℕ) (xs : List A) (ys : List B) (e : A)
    (many : length xs ≡ count_of from src) (same : length xs ≡ length ys) (agree : Agree (bits_to to) conv enc (U8 0) e (samples_of from src) xs) where
  rows : (row_answer (bits_to to) 0 (samples_of from src) ≡ row_answer conv 0 xs)
      × (row_results (bits_to to) (samples_of from src) ≡ map enc (row_results conv xs))
  rows = rows_agree (bits_to to) conv enc (U8 0) e 0 (samples_of from src) xs (length_samples from (count_of from src) src ∙ sym many) agree

  pub row_is : convert_answer conv xs ys ≡ row_answer conv 0 xs
  unfolding convert_answer
  row_is = ap (λ (b : Bool). refuse_if (not b) 9 0 (row_answer conv 0 xs)) (eq-eqb (length xs) (length ys) same)

  answer_is : {o : Outcome Success} → o ≡ convert_answer conv xs ys → o ≡ block_answer from to src
  unfolding block_answer
  answer_is q = q ∙ row_is ∙ sym rows.0

  pub row_refuses : {m p : ℕ} → refuses m p ≡ convert_answer conv xs ys → BlockAnswers from to src old (refuses m p) old
  row_refuses q = block_refused from to src old (answer_is q)

  pub left_is : gives done ≡ convert_answer conv xs ys → convert_exit conv xs ys ≡ row_results conv xs
  unfolding convert_exit
  left_is q = given_fills (λ (d : Success). row_results conv xs) ys (sym q) (results_length conv 0 xs (sym row_is ∙ sym q) ∙ same)

  pub row_gives : count_of from src ≤ length old / bytes_of to → gives done ≡ convert_answer conv xs ys
      → {zs : List B} → zs ≡ convert_exit conv xs ys
      → {now : List ℕ} → now ≡ sets old 0 (bytes_for to (map enc zs)) → BlockAnswers from to src old (gives done) now
  row_gives room q {zs} z {now} w =
      let r = row_results conv xs in
      block_output from to src old (map enc r) room (answer_is q) rows.1
      (length-map r enc ∙ results_length conv 0 xs (sym row_is ∙ sym q) ∙ many)
      (w ∙ ap (λ (l : List B). sets old 0 (bytes_for to (map enc l))) (z ∙ left_is q))

-- a row in which no sample is refused
module _ (from to : Kind) (src old : List ℕ) (room : count_of from src ≤ length old / bytes_of to) {A B : Type 0}
    (conv : A → Outcome B) (enc : B → ℕ) (f : A → B) (P : A → Type 0)
    (good : (x : A) → P x → conv x ≡ gives (f x)) (xs : List A) (e : A) (many : length xs ≡ count_of from src)
    (agree : Agree (bits_to to) conv enc (U8 0) e (samples_of from src) xs)
    (all : (i : ℕ) → i < length xs → P (get_or xs i e)) where
  pub row_always : {now : List ℕ} → now ≡ sets old 0 (bytes_for to (map enc (map f xs))) → BlockAnswers from to src old (gives done) now
  row_always q =
      let ys = map f xs in
      let same : length xs ≡ length ys = sym (length-map xs f) in
      let w = always_done conv xs ys f P e good same all ys refl in
      row_gives from to src old conv enc xs ys e many same agree room w.0 w.1 q

-- ---- the samples as a row

-- the numbers of samples of w bytes
pub numbers_small : (w n : ℕ) (src : List ℕ) → ((i : ℕ) → get_or src i 0 < 256) → (i : ℕ) → i < n → get_or (numbers_in w n src) i 0 < 256 ^ w
numbers_small w n src bytes i h = rw (number_here w n src i 0 h) (number_below w (drop (i * w) src) (λ j. rw (get_or-drop (i * w) src j 0) (bytes (i * w + j))))

-- a row of what the samples' numbers are made into, where each converts as its sample does
pub agree_by : (from to : Kind) {A D : Type 0} (conv : A → Outcome D) (enc : D → ℕ) (made : ℕ → A)
    → ((b : ℕ) → b < 256 ^ bytes_of from → bits_to to (value_of from b) ≡ mapped enc (conv (made b)))
    → (src : List ℕ) → ((i : ℕ) → get_or src i 0 < 256) → (row : List A) → row ≡ map made (numbers_in (bytes_of from) (count_of from src) src)
    → (length row ≡ count_of from src) × Agree (bits_to to) conv enc (U8 0) (made 0) (samples_of from src) row
agree_by from to conv enc made alike src bytes row q =
    let n = count_of from src in
    let ns = numbers_in (bytes_of from) n src in
    let many : length row ≡ n = ap length q ∙ length-map ns made ∙ length_numbers (bytes_of from) n src in (
      many,
      λ i h. let l : i < n = rw (← many) h in
          ap (bits_to to) (sample_here from n src i (U8 0) l ∙ ap (value_of from) (sym (number_here (bytes_of from) n src i 0 l)))
          ∙ alike (get_or ns i 0) (numbers_small (bytes_of from) n src bytes i l)
          ∙ ap (λ x. mapped enc (conv x)) (sym (ap (λ r. get_or r i (made 0)) q ∙ get_or-map made ns i 0)),
    )
