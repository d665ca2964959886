-- Words in bytes: what is read, what is written, and words written one after the other. Assumes nothing.
use Rattle.std.specs.Int.{from_bool, to_le_bytes}
use mathlib.Core.Bool.{Bool, true, false}
use Rattle.std.specs.Simd.{first_chunks}
use Rattle.std.proofs.Common.{w64}
use mathlib.Core.Path.{◌≡◌, refl, sym, ◌∙◌, ap, subst}
use mathlib.Core.List.{List, [], ◌∷◌, ◌++◌, append_assoc, append-nil}
use Prim.Native.Nat.{ℕ, zero, suc, ◌+◌, ◌*◌, ◌/◌, ◌%◌, ◌<◌, ◌≤◌}
use native.Mathlib.Omega.{arith}
use native.Mathlib.Nat.{mul-zero, mul-suc, add_comm, mul-le-mul_left}
use native.Mathlib.Numerals.{add-one}
use lib.ListN.{length, get_or, take, drop, set, length-append, length-take, length-drop, take-append-drop, drop_of_length-le}
use lib.Seq.{set_at, drop-cons, take_at, drop_at, length-take-le, drop-drop, take_all, take-suc, sets, sets-eq}
use Rattle.ground.specs.Part.{put}
use lib.Ieee.{Float}
use Rattle.string_voice.specs.declared.string_voice.StringVoice.{StringVoice}
use Rattle.modal_voice.specs.declared.modal_voice.ModalVoice.{ModalVoice}
use Rattle.slots.specs.declared.slots.Slot.{Slot}
use Rattle.slot_bytes.specs.Layout.{ModalF32, flag_of, encode_slot, float_words, svf_words, dc_words, string_words, voice_words, mode_words, batch_words}
use Rattle.slot_bytes.specs.Layout.{modal_words, slot_words}
use Rattle.ground.specs.Each.{Each}
use Rattle.slot_bytes.specs.Words.{word_of, words_in, bytes, put_words, each}

-- ---- the k-th word

past : (a b c d : ℕ) (bs : List ℕ) (n j : ℕ) → n ≡ suc (suc (suc (suc j))) → get_or (a ∷ b ∷ c ∷ d ∷ bs) n 0 ≡ get_or bs j 0
past a b c d bs n j e = ap (λ (m : ℕ). get_or (a ∷ b ∷ c ∷ d ∷ bs) m 0) e

pub word_at : (k : ℕ) (bs : List ℕ) → 4 * k + 4 ≤ length bs
    → word_of (get_or bs (4 * k) 0) (get_or bs (4 * k + 1) 0) (get_or bs (4 * k + 2) 0) (get_or bs (4 * k + 3) 0) ≡ get_or (words_in bs) k 0
unfolding words_in
word_at k [] h = absurd (omega arith)
word_at k (a ∷ []) h = absurd (omega arith)
word_at k (a ∷ b ∷ []) h = absurd (omega arith)
word_at k (a ∷ b ∷ c ∷ []) h = absurd (omega arith)
word_at zero (a ∷ b ∷ c ∷ d ∷ bs) h = refl
word_at (suc k) (a ∷ b ∷ c ∷ d ∷ bs) h =
    (λ i. word_of
    (past a b c d bs (4 * suc k) (4 * k) (omega arith) i)
    (past a b c d bs (4 * suc k + 1) (4 * k + 1) (omega arith) i)
    (past a b c d bs (4 * suc k + 2) (4 * k + 2) (omega arith) i)
    (past a b c d bs (4 * suc k + 3) (4 * k + 3) (omega arith) i))
    ∙ word_at k bs (omega arith)

-- ---- four stores are a word written

one : (n : ℕ) → n + 1 ≡ suc n
one n = omega arith

two : (n : ℕ) → n + 2 ≡ suc (suc n)
two n = omega arith

three : (n : ℕ) → n + 3 ≡ suc (suc (suc n))
three n = omega arith

pub stored : (k w : ℕ) (bs : List ℕ) → 4 * k + 4 ≤ length bs
    → set (set (set (set bs (4 * k) (w % 256)) (4 * k + 1) (w / 256 % 256)) (4 * k + 2) (w / 65536 % 256)) (4 * k + 3) (w / 16777216 % 256) ≡ put_words k
    (w ∷ []) bs
unfolding put_words bytes put
stored k w bs h =
    let n = 4 * k in
    let xs : List ℕ = w % 256 ∷ w / 256 % 256 ∷ w / 65536 % 256 ∷ w / 16777216 % 256 ∷ [] in
    let s : set (set (set (set bs n (w % 256)) (n + 1) (w / 256 % 256)) (n + 2) (w / 65536 % 256)) (n + 3) (w / 16777216 % 256) ≡ sets bs n xs =
    λ i. set (set (set (set bs n (w % 256)) (one n i) (w / 256 % 256)) (two n i) (w / 65536 % 256)) (three n i) (w / 16777216 % 256) in
    let e : sets bs n xs ≡ (take n bs ++ xs) ++ drop (n + 4) bs = sets-eq xs bs n h in
    let d : take n bs ++ (xs ++ drop (n + 4) bs) ≡ take n bs ++ (xs ++ drop 4 (drop n bs)) = ap (λ (ys : List ℕ). take n bs ++ (xs ++ ys))
    (sym (drop-drop 4 n bs)) in
    s ∙ e ∙ append_assoc (take n bs) xs (drop (n + 4) bs) ∙ d

-- four bytes copied over are a word written: j is the code's end less its start
pub stored_row : (k w j : ℕ) (bs : List ℕ) {xs : List ℕ} → j ≡ 4 → xs ≡ take 4 (to_le_bytes w64 w)
    → take (4 * k) bs ++ (xs ++ drop j (drop (4 * k) bs)) ≡ put_words k (w ∷ []) bs
unfolding put_words bytes put
stored_row k w j bs ej e = λ i. take (4 * k) bs ++ (e i ++ drop (ej i) (drop (4 * k) bs))

-- the k-th chunk of four
pub chunk : (n k : ℕ) (bs : List ℕ) → k < n → 4 * n ≤ length bs
    → get_or (first_chunks 4 n bs) k [] ≡ get_or bs (4 * k) 0 ∷ get_or bs (4 * k + 1) 0 ∷ get_or bs (4 * k + 2) 0 ∷ get_or bs (4 * k + 3) 0 ∷ []
chunk zero k bs h l = absurd (omega arith)
chunk (suc n) k [] h l = absurd (omega arith)
chunk (suc n) k (a ∷ []) h l = absurd (omega arith)
chunk (suc n) k (a ∷ b ∷ []) h l = absurd (omega arith)
chunk (suc n) k (a ∷ b ∷ c ∷ []) h l = absurd (omega arith)
chunk (suc n) zero (a ∷ b ∷ c ∷ d ∷ bs) h l = refl
chunk (suc n) (suc k) (a ∷ b ∷ c ∷ d ∷ bs) h l =
    chunk n k bs (omega arith) (omega arith)
    ∙ λ i. sym (past a b c d bs (4 * suc k) (4 * k) (omega arith)) i
    ∷ sym (past a b c d bs (4 * suc k + 1) (4 * k + 1) (omega arith)) i
    ∷ sym (past a b c d bs (4 * suc k + 2) (4 * k + 2) (omega arith)) i
    ∷ sym (past a b c d bs (4 * suc k + 3) (4 * k + 3) (omega arith)) i
    ∷ []

-- ---- words written one after the other

pub bytes_append : (ws vs : List ℕ) → bytes (ws ++ vs) ≡ bytes ws ++ bytes vs
unfolding bytes
bytes_append [] vs = refl
bytes_append (w ∷ ws) vs = ap (λ (l : List ℕ). w % 256 ∷ w / 256 % 256 ∷ w / 65536 % 256 ∷ w / 16777216 % 256 ∷ l) (bytes_append ws vs)

pub length_bytes : (ws : List ℕ) → length (bytes ws) ≡ 4 * length ws
unfolding bytes
length_bytes [] = refl
length_bytes (w ∷ ws) = let e = length_bytes ws in omega arith

put_put : (a m n b k : ℕ) (ys zs xs : List ℕ) → length ys ≡ m → a + m ≤ length xs → b ≡ a + m → k ≡ m + n → put b n zs (put a m ys xs) ≡ put a k (ys ++ zs) xs
unfolding put
put_put a m n b k ys zs xs ly h eb ek =
    let rest = drop m (drop a xs) in
    let la : length (take a xs) ≡ a = length-take-le a xs (omega arith) in
    let lp : length (take a xs ++ ys) ≡ b = simp length-append (omega arith) in
    ap (λ (p : List ℕ). take b p ++ (zs ++ drop n (drop b p))) (sym (append_assoc (take a xs) ys rest))
    ∙ ap (λ (p : List ℕ). p ++ (zs ++ drop n (drop b ((take a xs ++ ys) ++ rest)))) (take_at (take a xs ++ ys) rest b lp)
    ∙ ap (λ (p : List ℕ). (take a xs ++ ys) ++ (zs ++ drop n p)) (drop_at (take a xs ++ ys) rest b lp)
    ∙ ap (λ (p : List ℕ). (take a xs ++ ys) ++ (zs ++ p)) (drop-drop n m (drop a xs) ∙ ap (λ (j : ℕ). drop j (drop a xs)) (sym ek))
    ∙ append_assoc (take a xs) ys (zs ++ drop k (drop a xs))
    ∙ ap (λ (p : List ℕ). take a xs ++ p) (sym (append_assoc ys zs (drop k (drop a xs))))

-- words behind words: a chain of writes is a chain of these
pub wrote : (k j : ℕ) (ws vs bs : List ℕ) {cs ds : List ℕ} → cs ≡ put_words k ws bs → ds ≡ put_words j vs cs → j ≡ k + length ws
    → 4 * k + 4 * length ws ≤ length bs
    → ds ≡ put_words k (ws ++ vs) bs
unfolding put_words
wrote k j ws vs bs e f ej h =
    f ∙ ap (put_words j vs) e
    ∙ put_put (4 * k) (4 * length ws) (4 * length vs) (4 * j) (4 * length (ws ++ vs)) (bytes ws) (bytes vs) bs (length_bytes ws) h (omega arith)
    (let l = length-append ws vs in omega arith)
    ∙ ap (λ (l : List ℕ). put (4 * k) (4 * length (ws ++ vs)) l bs) (sym (bytes_append ws vs))

pub length_written : (k : ℕ) (ws bs : List ℕ) → 4 * k + 4 * length ws ≤ length bs → length (put_words k ws bs) ≡ length bs
unfolding put_words put
length_written k ws bs h = let e = length_bytes ws in simp (length-append, length-take, length-drop) (omega arith)

-- the 98 words of a slot, and its flag
whole_slot : (ws bs : List ℕ) (v : ℕ) → length bs ≡ 393 → length ws ≡ 98 → set (put_words 0 ws bs) 392 v ≡ bytes ws ++ (v ∷ [])
unfolding put_words put
whole_slot ws bs v lb lw =
    let l : length (bytes ws) ≡ 392 = length_bytes ws ∙ ap (λ (n : ℕ). 4 * n) lw in
    let d : drop 392 bs ≡ get_or bs 392 0 ∷ [] = drop-cons bs 392 0 (omega arith)
    ∙ ap (λ (q : List ℕ). get_or bs 392 0 ∷ q) (drop_of_length-le bs {i = 393} (omega arith)) in
    ap (λ (n : ℕ). set (bytes ws ++ drop (4 * n) bs) 392 v) lw
    ∙ ap (λ (q : List ℕ). set (bytes ws ++ q) 392 v) d
    ∙ set_at (bytes ws) (get_or bs 392 0) [] v 392 l

-- ---- the words of each of some things, written in a loop

module _ {A : Type 0} (f : A → List ℕ) where
  pub each_append : (xs ys : List A) → each f (xs ++ ys) ≡ each f xs ++ each f ys
  unfolding each
  each_append [] ys = refl
  each_append (x ∷ xs) ys = ap (λ (l : List ℕ). f x ++ l) (each_append xs ys) ∙ sym (append_assoc (f x) (each f xs) (each f ys))

  each_one : (x : A) → each f (x ∷ []) ≡ f x
  unfolding each
  each_one x = append-nil (f x)

  module _ (n : ℕ) (sized : (x : A) → length (f x) ≡ n) where
    pub length_each : (xs : List A) → length (each f xs) ≡ n * length xs
    unfolding each
    length_each [] = sym (mul-zero n)
    length_each (x ∷ xs) =
        length-append (f x) (each f xs) ∙ ap (λ (j : ℕ). j + length (each f xs)) (sized x) ∙ ap (λ (j : ℕ). n + j) (length_each xs) ∙ add_comm n (n * length xs)
        ∙ sym (mul-suc n (length xs))

-- the words of the first i are written from the k-th on
pub record Written {A : Type 0} (f : A → List ℕ) (k : ℕ) (xs : List A) (bs₀ : List ℕ) (i : ℕ) (bs : List ℕ) : Type 0 where
  pub is : bs ≡ put_words k (each f (take i xs)) bs₀
  pub same : length bs ≡ length bs₀

module _ {A : Type 0} {f : A → List ℕ} (k : ℕ) {xs : List A} {bs₀ : List ℕ} where
  pub written_begin : Written f k xs bs₀ 0 bs₀
  unfolding put_words put bytes each
  written_begin = record { is = sym (take-append-drop (4 * k) bs₀); same = refl }

  pub written_turn : (n : ℕ) → ((x : A) → length (f x) ≡ n) → {i : ℕ} {bs cs : List ℕ} (j : ℕ) (d : A) → Written f k xs bs₀ i bs → i < length xs
      → cs ≡ put_words j (f (get_or xs i d)) bs
      → j ≡ k + n * i → 4 * j + 4 * n ≤ length bs₀ → Written f k xs bs₀ (i + 1) cs
  written_turn n sized {i} {bs} {cs} j d w l e ej h =
      let x = get_or xs i d in
      let t : length (take i xs) ≡ i = length-take-le i xs (omega arith) in
      let m : length (each f (take i xs)) ≡ n * i = length_each f n sized (take i xs) ∙ ap (λ (q : ℕ). n * q) t in
      let z : length (f x) ≡ n = sized x in
      let s : each f (take (i + 1) xs) ≡ each f (take i xs) ++ f x =
      ap (λ (q : ℕ). each f (take q xs)) (add-one i) ∙ ap (each f) (take-suc xs i d l) ∙ each_append f (take i xs) (x ∷ [])
      ∙ ap (λ (q : List ℕ). each f (take i xs) ++ q) (each_one f x) in
      let v : 4 * k + 4 * length (each f (take i xs)) ≤ length bs₀ = omega arith in
      let is : cs ≡ put_words k (each f (take i xs) ++ f x) bs₀ = wrote k j (each f (take i xs)) (f x) bs₀ w.is e (omega arith) v in
      let b : length (each f (take i xs) ++ f x) ≡ n * i + n = length-append (each f (take i xs)) (f x) ∙ (λ q. m q + z q) in
      record {
        is = is ∙ ap (λ (q : List ℕ). put_words k q bs₀) (sym s);
        same = ap length is ∙ length_written k (each f (take i xs) ++ f x) bs₀ (omega arith);
      }

  pub written_end : {i : ℕ} {bs : List ℕ} → Written f k xs bs₀ i bs → length xs ≤ i → bs ≡ put_words k (each f xs) bs₀
  written_end {i} {bs} w l = w.is ∙ ap (λ (q : List A). put_words k (each f q) bs₀) (take_all i xs l)

-- of n things with so many words each there is room for the i-th
pub room : (words_in i n : ℕ) → i < n → words_in * i + words_in ≤ words_in * n
room words_in i n h = let e = mul-suc words_in i in let l : words_in * suc i ≤ words_in * n = mul-le-mul_left words_in (omega arith) in omega arith

-- ---- what holds of each

module _ {A : Type 0} (P : A → Type 0) where
  each_snoc : (xs : List A) (x : A) → Each P xs → P x → Each P (xs ++ (x ∷ []))
  each_snoc [] x e p = (p, tt)
  each_snoc (y ∷ xs) x e p = (e.0, each_snoc xs x e.1 p)

  pub each_more : (xs : List A) (i : ℕ) (d : A) → i < length xs → Each P (take i xs) → P (get_or xs i d) → Each P (take (i + 1) xs)
  each_more xs i d l e p =
      subst (Each P) (sym (ap (λ (q : ℕ). take q xs) (add-one i) ∙ take-suc xs i d l)) (each_snoc (take i xs) (get_or xs i d) e p)

  pub each_all : (xs : List A) (i : ℕ) → length xs ≤ i → Each P (take i xs) → Each P xs
  each_all xs i l e = subst (Each P) (take_all i xs l) e

-- ---- how many words

pub length_floats : (xs : List Float) → length xs ≡ 24 → length (each float_words xs) ≡ 24
unfolding float_words
length_floats xs e = length_each float_words 1 (λ x. refl) xs ∙ ap (λ (n : ℕ). 1 * n) e

pub length_voice : (v : StringVoice) → length (voice_words v) ≡ 23
unfolding voice_words string_words svf_words dc_words
length_voice v = refl

pub length_modal : (m : ModalVoice) → ModalF32 m → length (modal_words m) ≡ 74
unfolding modal_words mode_words batch_words
length_modal m f =
    let r = m.resonator in
    let a = length_floats r.mode_amplitude f.1.many in
    let b : length (each batch_words r.mode_filters) ≡ 48 = length_each batch_words 8 (λ x. refl) r.mode_filters ∙ ap (λ (n : ℕ). 8 * n) f.2.many in
    let l = length-append (each float_words r.mode_amplitude) (each batch_words r.mode_filters) in
    omega arith

pub length_slot : (s : Slot) → ModalF32 s.modal → length (slot_words s) ≡ 98
unfolding slot_words
length_slot s f =
    let v = length_voice s.string in
    let m = length_modal s.modal f in
    let l = length-append (voice_words s.string) (modal_words s.modal) in
    omega arith

-- ---- a modal voice's three writes, and a slot's four

pub modal_wrote : (m : ModalVoice) (bs : List ℕ) {cs ds es : List ℕ} → cs ≡ put_words 24 (mode_words m.excitation_filter) bs
    → ds ≡ put_words 26 (each float_words m.resonator.mode_amplitude) cs → es ≡ put_words 50 (each batch_words m.resonator.mode_filters) ds
    → length bs ≡ 393 → length m.resonator.mode_amplitude ≡ 24 → es ≡ put_words 24 (modal_words m) bs
unfolding modal_words mode_words
modal_wrote m bs e f g l n =
    let a = each float_words m.resonator.mode_amplitude in
    let b = each batch_words m.resonator.mode_filters in
    let x = mode_words m.excitation_filter in
    let k : length a ≡ 24 = length_floats m.resonator.mode_amplitude n in
    wrote 24 50 (x ++ a) b bs (wrote 24 26 x a bs e f refl (omega arith)) g (omega arith) (omega arith)

pub flag_is : (b : Bool) → from_bool b ≡ flag_of b
flag_is true = refl
flag_is false = refl

-- the words of a slot are written, and then the flag
pub whole_wrote : (s : Slot) (v : ℕ) (bs : List ℕ) {es : List ℕ} → es ≡ put_words 0 (slot_words s) bs → length bs ≡ 393 → ModalF32 s.modal
    → v ≡ flag_of s.modal.held → set es 392 v ≡ encode_slot s
unfolding encode_slot
whole_wrote s v bs e l o ev =
    ap (λ (q : List ℕ). set q 392 v) e ∙ whole_slot (slot_words s) bs v l (length_slot s o) ∙ ap (λ (q : ℕ). bytes (slot_words s) ++ (q ∷ [])) ev

pub slot_wrote : (s : Slot) (v : ℕ) (bs : List ℕ) {cs ds es : List ℕ} → cs ≡ put_words 0 (s.kind ∷ []) bs → ds ≡ put_words 1 (voice_words s.string) cs
    → es ≡ put_words 24 (modal_words s.modal) ds → length bs ≡ 393 → ModalF32 s.modal → v ≡ flag_of s.modal.held → set es 392 v ≡ encode_slot s
unfolding slot_words
slot_wrote s v bs e f g l o ev =
    let a = voice_words s.string in
    let b = modal_words s.modal in
    let k = length_voice s.string in
    whole_wrote s v bs (wrote 0 24 (s.kind ∷ a) b bs (wrote 0 1 (s.kind ∷ []) a bs e f refl (omega arith)) g (omega arith) (omega arith)) l o ev

pub length_slot_bytes : (s : Slot) → ModalF32 s.modal → length (encode_slot s) ≡ 393
unfolding encode_slot
length_slot_bytes s f =
    length-append (bytes (slot_words s)) (flag_of s.modal.held ∷ [])
    ∙ ap (λ (n : ℕ). n + 1) (length_bytes (slot_words s) ∙ ap (λ (n : ℕ). 4 * n) (length_slot s f))
