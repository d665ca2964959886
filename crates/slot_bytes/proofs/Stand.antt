-- A word, and floats, written again where they stand. Assumes nothing.
use mathlib.Core.Path.{◌≡◌, refl, sym, ◌∙◌, ap}
use mathlib.Core.Bool.{Bool, true, false, not, ◌&&◌, cond, and-true, and_assoc}
use mathlib.Core.List.{List, [], ◌∷◌, ◌++◌, append_assoc}
use Prim.Native.Nat.{ℕ, zero, suc, ◌+◌, ◌*◌, ◌/◌, ◌%◌, ◌<◌, ◌≤◌, ◌^◌}
use native.Mathlib.Omega.{arith}
use native.Mathlib.Numerals.{add-one}
use native.Mathlib.Nat.{div-add-mod, div-div-eq-div-mul, mod-lt, mod-eq_of_lt}
use lib.Dec.{eqb, leb, ltb}
use borrow.Author.Tests.{leb-true, leb-false, le-ltb, lt-ltb, not-true}
use lib.ListN.{length, get_or, take, drop, set, length-append}
use lib.Seq.{set-get_or, take-suc, take_all, take-take, take-append-le, drop-drop, drop_at, length-take-le}
use lib.Ieee.{Float, nan, is_nan, binary32, nan_bits, of_bits, to_bits}
use lib.Ieee.Bits.{to_bits-of_bits, of_bits-fits, nan_bits_is, nan_bits_above}
use Rattle.ground.specs.Frames.{tab}
use Rattle.ground.specs.Part.{put}
use Rattle.ground.proofs.Nans.{is_nan_lem}
use Rattle.ground.proofs.Tab.{length_tab}
use Rattle.slot_bytes.specs.Words.{word_of, words_in, bytes, put_words, each}
use Rattle.slots.specs.declared.slots.Slot.{Slot}
use Rattle.ground.proofs.Bools as bools
use Rattle.ground.specs.Each.{Each}
use Rattle.slot_bytes.specs.Layout.{F32, BatchF32, ModalF32, bits, float_in, floats_in, has_no_nan, mode_in, batch_in, modal_in, slot_in, decode_slot}
use Rattle.slot_bytes.specs.Layout.{float_words, mode_words, batch_words, voice_words, modal_words, slot_words, flag_of, encode_slot}
use Rattle.slot_bytes.proofs.Little.{stored, bytes_append, length_bytes, whole_wrote, length_voice, length_modal, Written, written_begin, written_turn}
use Rattle.slot_bytes.proofs.Little.{written_end}

-- ---- a word

-- the bytes of the word of four bytes are these
module _ (a b c d : ℕ) (p : a < 256) (q : b < 256) (r : c < 256) (s : d < 256) where
  abbrev w : ℕ
  w = word_of a b c d

  div_1 : w / 256 ≡ b + c * 256 + d * 65536
  div_1 = let e = div-add-mod w 256 in let m : w % 256 < 256 = mod-lt w (omega arith) in omega arith

  div_2 : w / 65536 ≡ c + d * 256
  div_2 = let e = div-add-mod w 65536 in let m : w % 65536 < 65536 = mod-lt w (omega arith) in omega arith

  div_3 : w / 16777216 ≡ d
  div_3 = let e = div-add-mod w 16777216 in let m : w % 16777216 < 16777216 = mod-lt w (omega arith) in omega arith

  pub byte_0 : w % 256 ≡ a
  byte_0 = let e = div-add-mod w 256 in let m = div_1 in omega arith

  pub byte_1 : w / 256 % 256 ≡ b
  byte_1 = let e = div-add-mod (w / 256) 256 in let m = div_1 in let n = div_2 in let o : w / 256 / 256 ≡ w / 65536 = div-div-eq-div-mul w 256 256 in omega
      arith

  pub byte_2 : w / 65536 % 256 ≡ c
  byte_2 = let e = div-add-mod (w / 65536) 256 in let m = div_2 in let n = div_3 in let o : w / 65536 / 256 ≡ w / 16777216 = div-div-eq-div-mul w 65536 256
      in omega arith

  pub byte_3 : w / 16777216 % 256 ≡ d
  byte_3 = ap (λ (n : ℕ). n % 256) div_3 ∙ mod-eq_of_lt s

pub word_stands : (k : ℕ) (bs : List ℕ) → 4 * k + 4 ≤ length bs → get_or bs (4 * k) 0 < 256 → get_or bs (4 * k + 1) 0 < 256 → get_or bs (4 * k + 2) 0 < 256
    → get_or bs (4 * k + 3) 0 < 256
    → put_words k (word_of (get_or bs (4 * k) 0) (get_or bs (4 * k + 1) 0) (get_or bs (4 * k + 2) 0) (get_or bs (4 * k + 3) 0) ∷ []) bs ≡ bs
word_stands k bs h p q r s =
    let n = 4 * k in
    let a = get_or bs n 0 in
    let b = get_or bs (n + 1) 0 in
    let c = get_or bs (n + 2) 0 in
    let d = get_or bs (n + 3) 0 in
    sym (stored k (word_of a b c d) bs h)
    ∙ (λ i. set (set (set (set bs n (byte_0 a b c d p q r s i)) (n + 1) (byte_1 a b c d p q r s i)) (n + 2) (byte_2 a b c d p q r s i)) (n + 3)
    (byte_3 a b c d p q r s i))
    ∙ ap (λ (l : List ℕ). set (set (set l (n + 1) b) (n + 2) c) (n + 3) d) (set-get_or bs n 0)
    ∙ ap (λ (l : List ℕ). set (set l (n + 2) c) (n + 3) d) (set-get_or bs (n + 1) 0)
    ∙ ap (λ (l : List ℕ). set l (n + 3) d) (set-get_or bs (n + 2) 0)
    ∙ set-get_or bs (n + 3) 0

-- ---- a float's word

by_test : (w : ℕ) → w < 2 ^ 32 → (b : Bool) → nan_bits binary32 w ≡ b → bits (of_bits binary32 w) ≡ cond b 0x7fc00000 w
unfolding to_bits
by_test w h true e = ap bits (is_nan_lem (of_bits binary32 w) (sym (nan_bits_is binary32 w) ∙ e))
by_test w h false e = to_bits-of_bits binary32 w h (rw (sym (nan_bits_is binary32 w) ∙ e) tt)

pub word_kept : (w : ℕ) → w < 2 ^ 32 → bits (of_bits binary32 w) ≡ cond (nan_bits binary32 w) 0x7fc00000 w
word_kept w h = by_test w h (nan_bits binary32 w) refl

-- the code's test
pub tested : (w : ℕ) → leb (w % 2147483648) 2139095040 ≡ not (is_nan (of_bits binary32 w))
tested w = other (w % 2147483648) 2139095040 ∙ ap not (sym (nan_bits_above binary32 w) ∙ nan_bits_is binary32 w)
  where
    other : (a b : ℕ) → leb a b ≡ not (ltb b a)
    other a b = by (leb a b) refl
      where
        by : (t : Bool) → leb a b ≡ t → t ≡ not (ltb b a)
        by true e = ap not (sym (le-ltb b a (leb-true a b e)))
        by false e = ap not (sym (lt-ltb b a (leb-false a b e)))

pub float_stands : (k w : ℕ) (bs : List ℕ) → w < 2 ^ 32 → w ≡ get_or (words_in bs) k 0 → put_words k (w ∷ []) bs ≡ bs
    → not (is_nan (float_in (words_in bs) k)) ≡ true
    → put_words k (float_words (float_in (words_in bs) k)) bs ≡ bs
unfolding float_words
float_stands k w bs h e s n =
    let f : nan_bits binary32 w ≡ false = nan_bits_is binary32 w ∙ ap (λ (v : ℕ). is_nan (of_bits binary32 v)) e
    ∙ not-true (is_nan (float_in (words_in bs) k)) n in
    ap (λ (v : ℕ). put_words k (bits (of_bits binary32 v) ∷ []) bs) (sym e) ∙ ap (λ (v : ℕ). put_words k (v ∷ []) bs) (by_test w h false f) ∙ s

-- ---- n floats from the k-th on

tab_at : {X : Type 0} (n i : ℕ) (f : ℕ → X) (d : X) → i < n → get_or (tab n f) i d ≡ f i
unfolding tab
tab_at zero i f d h = absurd (omega arith)
tab_at (suc n) zero f d h = refl
tab_at (suc n) (suc i) f d h = tab_at n i (λ j. f (suc j)) d (omega arith)

none_more : (xs : List Float) (x : Float) → has_no_nan (xs ++ (x ∷ [])) ≡ has_no_nan xs && not (is_nan x)
unfolding has_no_nan
none_more [] x = and-true (not (is_nan x))
none_more (y ∷ xs) x = ap (λ (b : Bool). not (is_nan y) && b) (none_more xs x) ∙ sym (and_assoc (not (is_nan y)) (has_no_nan xs) (not (is_nan x)))

-- the first i of them are looked at
pub record Standing (bs : List ℕ) (k n i : ℕ) (stand : Bool) : Type 0 where
  pub is : stand ≡ has_no_nan (take i (floats_in (words_in bs) k n))
  pub written : stand ≡ true → Written float_words k (floats_in (words_in bs) k n) bs i bs

one : (x : Float) → length (float_words x) ≡ 1
unfolding float_words
one x = refl

module _ {bs : List ℕ} {k n : ℕ} where
  pub standing_begin : Standing bs k n 0 true
  unfolding has_no_nan
  standing_begin = record { is = refl; written = λ e. written_begin k }

  pub standing_turn : {i : ℕ} {stand r : Bool} → Standing bs k n i stand → i < n → 4 * (k + n) ≤ length bs → r ≡ not (is_nan (float_in (words_in bs) (k + i)))
      → (r ≡ true → put_words (k + i) (float_words (float_in (words_in bs) (k + i))) bs ≡ bs) → Standing bs k n (i + 1) (stand && r)
  standing_turn {i} {stand} {r} s h l e f =
      let xs = floats_in (words_in bs) k n in
      let m = length_tab n (λ j. float_in (words_in bs) (k + j)) in
      let x : get_or xs i nan ≡ float_in (words_in bs) (k + i) = tab_at n i (λ j. float_in (words_in bs) (k + j)) nan h in
      record {
        is = (λ j. s.is j && e j)
            ∙ sym (none_more (take i xs) (float_in (words_in bs) (k + i)))
            ∙ ap (λ (y : Float). has_no_nan (take i xs ++ (y ∷ []))) (sym x)
            ∙ ap has_no_nan (sym (ap (λ (j : ℕ). take j xs) (add-one i) ∙ take-suc xs i nan (omega arith)));
        written = λ t.
            let u = bools.and_true stand r t in
            written_turn k 1 one (k + i) nan (s.written u.0) (omega arith) (sym (ap (λ (y : Float). put_words (k + i) (float_words y) bs) x ∙ f u.1))
            (omega arith) (omega arith);
      }

  pub standing_end : {i : ℕ} {stand : Bool} → Standing bs k n i stand → n ≤ i
      → (stand ≡ has_no_nan (floats_in (words_in bs) k n)) × (stand ≡ true → put_words k (each float_words (floats_in (words_in bs) k n)) bs ≡ bs)
  standing_end {i} {stand} s h =
      let m = length_tab n (λ j. float_in (words_in bs) (k + j)) in
      (s.is ∙ ap has_no_nan (take_all i (floats_in (words_in bs) k n) (omega arith)), λ e. sym (written_end k (s.written e) (omega arith)))

-- ---- a modal voice at rest

each_tab : {X : Type 0} (P : X → Type 0) (n : ℕ) (f : ℕ → X) → ((i : ℕ) → P (f i)) → Each P (tab n f)
unfolding tab
each_tab P zero f h = tt
each_tab P (suc n) f h = (h 0, each_tab P n (λ i. f (suc i)) (λ i. h (suc i)))

batch_fits : (ws : List ℕ) (k : ℕ) → BatchF32 (batch_in ws k)
unfolding BatchF32 batch_in mode_in
batch_fits ws k =
    let f : (j : ℕ) → F32 (float_in ws j) = λ j. of_bits-fits binary32 (get_or ws j 0) in
    ((f k, f (k + 1)), (f (k + 2), f (k + 2 + 1)), (f (k + 4), f (k + 4 + 1)), (f (k + 6), f (k + 6 + 1)))

-- what is read are f32s
pub modal_fits : (ws : List ℕ) (h : Bool) → ModalF32 (modal_in ws h)
unfolding modal_in mode_in
modal_fits ws h =
    let f : (j : ℕ) → F32 (float_in ws j) = λ j. of_bits-fits binary32 (get_or ws j 0) in (
      (f 24, f 25),
      record { many = length_tab 24 (λ i. float_in ws (26 + i)); all = each_tab F32 24 (λ i. float_in ws (26 + i)) (λ i. f (26 + i)) },
      record {
        many = length_tab 6 (λ i. batch_in ws (50 + 8 * i));
        all = each_tab BatchF32 6 (λ i. batch_in ws (50 + 8 * i)) (λ i. batch_fits ws (50 + 8 * i));
      },
    )

-- its words are those of 74 floats in a row
pub modal_row : (ws : List ℕ) (h : Bool) → each float_words (floats_in ws 24 74) ≡ modal_words (modal_in ws h)
unfolding each float_words tab modal_words modal_in mode_words mode_in batch_words batch_in
modal_row ws h = refl

pub modal_stands : (bs : List ℕ) → put_words 24 (each float_words (floats_in (words_in bs) 24 74)) bs ≡ bs
    → (bs ≡ put_words 24 (modal_words (decode_slot bs).modal) bs) × ModalF32 (decode_slot bs).modal
unfolding decode_slot slot_in
modal_stands bs e =
    let h = eqb (get_or bs 392 0) 1 in
    (sym e ∙ ap (λ (ws : List ℕ). put_words 24 ws bs) (modal_row (words_in bs) h), modal_fits (words_in bs) h)

-- ---- a string's voice, written into its slot

put_below : (a m n b k : ℕ) (ys zs xs : List ℕ) → length zs ≡ n → b + n ≤ length xs → b ≡ a + m → k ≡ m + n → put a m ys (put b n zs xs) ≡ put a k (ys ++ zs) xs
unfolding put
put_below a m n b k ys zs xs lz h eb ek =
    let rest = zs ++ drop n (drop b xs) in
    let lb : length (take b xs) ≡ b = length-take-le b xs (omega arith) in
    ap (λ (p : List ℕ). p ++ (ys ++ drop m (drop a (take b xs ++ rest)))) (take-append-le a (take b xs) rest (omega arith) ∙ take-take a b xs (omega arith))
    ∙ ap (λ (p : List ℕ). take a xs ++ (ys ++ p)) (drop-drop m a (take b xs ++ rest) ∙ ap (λ (j : ℕ). drop j (take b xs ++ rest)) (sym eb)
    ∙ drop_at (take b xs) rest b lb)
    ∙ ap (λ (p : List ℕ). take a xs ++ p) (sym (append_assoc ys zs (drop n (drop b xs))))
    ∙ ap (λ (p : List ℕ). take a xs ++ ((ys ++ zs) ++ p)) (drop-drop n b xs ∙ ap (λ (j : ℕ). drop j xs) (end a m n b k eb ek) ∙ sym (drop-drop k a xs))
  where
    end : (a m n b k : ℕ) → b ≡ a + m → k ≡ m + n → b + n ≡ a + k
    end a m n b k eb ek = omega arith

-- words before words
wrote_below : (k j : ℕ) (ws vs bs : List ℕ) {cs ds : List ℕ} → cs ≡ put_words j vs bs → ds ≡ put_words k ws cs → j ≡ k + length ws
    → 4 * j + 4 * length vs ≤ length bs
    → ds ≡ put_words k (ws ++ vs) bs
unfolding put_words
wrote_below k j ws vs bs e f ej h =
    f ∙ ap (put_words k ws) e
    ∙ put_below (4 * k) (4 * length ws) (4 * length vs) (4 * j) (4 * length (ws ++ vs)) (bytes ws) (bytes vs) bs (length_bytes vs) h (omega arith)
    (let l = length-append ws vs in omega arith)
    ∙ ap (λ (l : List ℕ). put (4 * k) (4 * length (ws ++ vs)) l bs) (sym (bytes_append ws vs))

pub string_wrote : (s : Slot) (n v : ℕ) (bs : List ℕ) {cs ds es : List ℕ} → cs ≡ put_words 24 (modal_words s.modal) bs
    → ds ≡ put_words 1 (voice_words s.string) cs
    → es ≡ put_words 0 (n ∷ []) ds → length bs ≡ 393 → ModalF32 s.modal → n ≡ s.kind → v ≡ flag_of s.modal.held → set es 392 v ≡ encode_slot s
unfolding slot_words
string_wrote s n v bs e f g l o en ev =
    let a = voice_words s.string in
    let b = modal_words s.modal in
    let k = length_voice s.string in
    let m = length_modal s.modal o in
    let t = length-append a b in
    let w = wrote_below 0 1 (n ∷ []) (a ++ b) bs (wrote_below 1 24 a b bs e f (omega arith) (omega arith)) g refl (omega arith) in
    whole_wrote s v bs (w ∙ ap (λ (j : ℕ). put_words 0 (j ∷ (a ++ b)) bs) en) l o ev
