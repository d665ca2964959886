-- Decode after encode is the identity. Assumes nothing.
use mathlib.Core.Path.{◌≡◌, refl, sym, ◌∙◌, ap}
use mathlib.Core.Bool.{Bool, true, false}
use mathlib.Core.List.{List, [], ◌∷◌, ◌++◌, append_assoc, append-nil}
use Prim.Native.Nat.{ℕ, zero, suc, ◌+◌, ◌*◌, ◌/◌, ◌%◌, ◌<◌, ◌^◌}
use native.Mathlib.Omega.{arith}
use native.Mathlib.Nat.{mul-zero, mul-suc, div-add-mod, div-div-eq-div-mul, div-lt_iff_lt-mul, mod-eq_of_lt}
use lib.Dec.{eqb}
use lib.ListN.{length, get_or, get_or-append}
use lib.Seq.{get_or-append-add, get_or_at}
use lib.Ieee.{Float, nan, binary32, of_bits}
use lib.Ieee.Bits.{of_bits-to_bits, to_bits-lt}
use Rattle.ground.specs.Frames.{tab}
use Rattle.ground.proofs.Tab.{tab_get_d}
use Rattle.utils.specs.declared.filter.Svf.{Svf}
use Rattle.utils.specs.declared.filter.DcBlocker.{DcBlocker}
use Rattle.waveguide.specs.declared.string.String.{String}
use Rattle.modes.specs.declared.resonator.ResonatorSvf.{ResonatorSvf}
use Rattle.modes.specs.declared.resonator.Batch.{Batch}
use Rattle.slots.specs.declared.slots.Slot.{Slot}
use Rattle.ground.specs.Each.{Each}
use Rattle.ground.proofs.Each as every
use Rattle.slot_bytes.specs.Words.{word_of, words_in, bytes, each}
use Rattle.slot_bytes.specs.Layout.{F32, SvfF32, DcF32, StringF32, ModeF32, BatchF32, SlotF32, float_in, svf_in, dc_in, string_in, voice_in, mode_in, batch_in}
use Rattle.slot_bytes.specs.Layout.{modal_in, slot_in, decode_slot, bits, svf_words, dc_words, string_words, voice_words, mode_words, batch_words, float_words}
use Rattle.slot_bytes.specs.Layout.{modal_words, slot_words, flag_of, encode_slot}
use Rattle.bank_abi.specs.Claims.{Numbers, DecodeEncode}
use Rattle.slot_bytes.proofs.Little.{length_bytes, length_floats, length_slot}

-- ---- the words of the bytes of words

abbrev pub Small : ℕ → Type 0
Small w = w < 2 ^ 32

four : (w : ℕ) → Small w → word_of (w % 256) (w / 256 % 256) (w / 65536 % 256) (w / 16777216 % 256) ≡ w
four w h =
    let e₁ : w / 256 / 256 ≡ w / 65536 = div-div-eq-div-mul w 256 256 in
    let e₂ : w / 65536 / 256 ≡ w / 16777216 = div-div-eq-div-mul w 65536 256 in
    let d₀ = div-add-mod w 256 in
    let d₁ = div-add-mod (w / 256) 256 in
    let d₂ = div-add-mod (w / 65536) 256 in
    let l : w / 16777216 < 256 = (div-lt_iff_lt-mul {k = 16777216} {x = w} {y = 256} (omega arith)).1 (omega arith) in
    let d₃ = mod-eq_of_lt l in
    omega arith

words_of : (ws : List ℕ) (v : ℕ) → Each Small ws → words_in (bytes ws ++ (v ∷ [])) ≡ ws
unfolding words_in bytes
words_of [] v h = refl
words_of (w ∷ ws) v h = λ i. four w h.0 i ∷ words_of ws v h.1 i

small_append : (xs ys : List ℕ) → Each Small xs → Each Small ys → Each Small (xs ++ ys)
small_append [] ys p q = q
small_append (x ∷ xs) ys p q = (p.0, small_append xs ys p.1 q)

small_each : {A : Type 0} (f : A → List ℕ) (P : A → Type 0) → ((x : A) → P x → Each Small (f x)) → (xs : List A) → Each P xs → Each Small (each f xs)
unfolding each
small_each f P h [] p = tt
small_each f P h (x ∷ xs) p = small_append (f x) (each f xs) (h x p.0) (small_each f P h xs p.1)

small : (x : Float) → F32 x → Small (bits x)
small x f = to_bits-lt binary32 x f

back : (x : Float) → F32 x → of_bits binary32 (bits x) ≡ x
back x f = of_bits-to_bits binary32 x f

-- ---- every word of a slot is one of 32 bits

svf_small : (s : Svf) → SvfF32 s → Each Small (svf_words s)
unfolding svf_words
svf_small s f = (small s.g f.0, (small s.r f.1, (small s.h f.2, (small s.state_1 f.3, (small s.state_2 f.4, tt)))))

dc_small : (d : DcBlocker) → DcF32 d → Each Small (dc_words d)
unfolding dc_words
dc_small d f = (small d.pole f.0, (small d.x f.1, (small d.y f.2, tt)))

mode_small : (m : ResonatorSvf) → ModeF32 m → Each Small (mode_words m)
unfolding mode_words
mode_small m f = (small m.state_1 f.0, (small m.state_2 f.1, tt))

batch_small : (b : Batch) → BatchF32 b → Each Small (batch_words b)
unfolding batch_words BatchF32
batch_small b f =
    small_append (mode_words b.mode_0) (mode_words b.mode_1 ++ (mode_words b.mode_2 ++ mode_words b.mode_3)) (mode_small b.mode_0 f.0)
    (small_append (mode_words b.mode_1) (mode_words b.mode_2 ++ mode_words b.mode_3) (mode_small b.mode_1 f.1)
    (small_append (mode_words b.mode_2) (mode_words b.mode_3) (mode_small b.mode_2 f.2) (mode_small b.mode_3 f.3)))

float_small : (x : Float) → F32 x → Each Small (float_words x)
unfolding float_words
float_small x f = (small x f, tt)

string_small : (s : String) → s.string < 2 ^ 32 → s.stretch < 2 ^ 32 → StringF32 s → Each Small (string_words s)
unfolding string_words
string_small s p q f =
    let last : Each Small (bits s.delay ∷ bits s.dispersion_noise ∷ bits s.curved_bridge ∷ bits s.src_phase ∷ bits s.out_sample_0 ∷ bits s.out_sample_1
    ∷ bits s.sample_rate_hz ∷ []) = (
      small s.delay f.2,
      (
        small s.dispersion_noise f.3,
        (
          small s.curved_bridge f.4,
          (small s.src_phase f.5, (small s.out_sample_0 f.6, (small s.out_sample_1 f.7, (small s.sample_rate_hz f.8, tt)))),
        ),
      ),
    ) in (
      p,
      (
        q,
        small_append (svf_words s.iir_damping_filter) _ (svf_small s.iir_damping_filter f.0)
            (small_append (dc_words s.dc_blocker) _ (dc_small s.dc_blocker f.1) last),
      ),
    )

slot_small : (s : Slot) → Numbers s → SlotF32 s → Each Small (slot_words s)
unfolding slot_words voice_words modal_words
slot_small s n f =
    let v = s.string in
    let m = s.modal in
    let left : Each Small (v.remaining_noise_samples ∷ []) = (n.left, tt) in (
      n.kind,
      small_append (voice_words v) (modal_words m)
          (small_append (svf_words v.excitation_filter) (string_words v.string ++ (v.remaining_noise_samples ∷ [])) (svf_small v.excitation_filter f.0.0)
          (small_append (string_words v.string) (v.remaining_noise_samples ∷ []) (string_small v.string n.string n.stretch f.0.1) left))
          (small_append (mode_words m.excitation_filter) (each float_words m.resonator.mode_amplitude ++ each batch_words m.resonator.mode_filters)
          (mode_small m.excitation_filter f.1.0)
          (small_append (each float_words m.resonator.mode_amplitude) (each batch_words m.resonator.mode_filters)
          (small_each float_words F32 float_small m.resonator.mode_amplitude f.1.1.all)
          (small_each batch_words BatchF32 batch_small m.resonator.mode_filters f.1.2.all))),
    )

-- ---- the word j of the thing i, where each thing has n words

module _ {A : Type 0} (f : A → List ℕ) (n : ℕ) (sized : (x : A) → length (f x) ≡ n) where
  each_at : (xs : List A) (rest : List ℕ) (i j k : ℕ) (d : A) → k ≡ n * i + j → i < length xs → j < n
      → get_or (each f xs ++ rest) k 0 ≡ get_or (f (get_or xs i d)) j 0
  unfolding each
  each_at [] rest i j k d ek h g = absurd (omega arith)
  each_at (x ∷ xs) rest zero j k d ek h g =
      let z = sized x in
      let m = mul-zero n in
      let e : k ≡ j = omega arith in
      ap (λ (m : ℕ). get_or ((f x ++ each f xs) ++ rest) m 0) e
      ∙ ap (λ (l : List ℕ). get_or l j 0) (append_assoc (f x) (each f xs) rest)
      ∙ get_or-append (f x) (each f xs ++ rest) 0 j (omega arith)
  each_at (x ∷ xs) rest (suc i) j k d ek h g =
      let z = sized x in
      let m = mul-suc n i in
      let e : k ≡ length (f x) + (n * i + j) = omega arith in
      ap (λ (m : ℕ). get_or ((f x ++ each f xs) ++ rest) m 0) e
      ∙ ap (λ (l : List ℕ). get_or l (length (f x) + (n * i + j)) 0) (append_assoc (f x) (each f xs) rest)
      ∙ get_or-append-add (f x) (each f xs ++ rest) (n * i + j) 0
      ∙ each_at xs rest i j (n * i + j) d refl (omega arith) g

pub tab_same : {X : Type 0} (n : ℕ) (f g : ℕ → X) → ((i : ℕ) → i < n → f i ≡ g i) → tab n f ≡ tab n g
unfolding tab
tab_same zero f g h = refl
tab_same (suc n) f g h = λ i. h 0 (omega arith) i ∷ tab_same n (λ j. f (suc j)) (λ j. g (suc j)) (λ j l. h (suc j) (omega arith)) i

flag_back : (b : Bool) → eqb (flag_of b) 1 ≡ b
flag_back true = refl
flag_back false = refl

abbrev no_mode : ResonatorSvf
no_mode = record { state_1 = nan; state_2 = nan }

abbrev no_batch : Batch
no_batch = record { mode_0 = no_mode; mode_1 = no_mode; mode_2 = no_mode; mode_3 = no_mode }

-- ---- a slot read back

-- the floats, from where they stand on
module _ (s : Slot) (f : SlotF32 s) where
  abbrev ws : List ℕ
  ws = slot_words s

  abbrev front : List ℕ
  front = s.kind ∷ voice_words s.string ++ mode_words s.modal.excitation_filter

  abbrev amps : List Float
  amps = s.modal.resonator.mode_amplitude

  abbrev filters : List Batch
  filters = s.modal.resonator.mode_filters

  one : (x : Float) → length (float_words x) ≡ 1
  unfolding float_words
  one x = refl

  eight : (x : Batch) → length (batch_words x) ≡ 8
  unfolding batch_words mode_words
  eight x = refl

  -- the words behind the first 26, and those behind the first 50
  word_26 : (i : ℕ) → get_or ws (26 + i) 0 ≡ get_or (each float_words amps ++ each batch_words filters) i 0
  unfolding slot_words voice_words string_words svf_words dc_words modal_words mode_words
  word_26 i = get_or-append-add front (each float_words amps ++ each batch_words filters) i 0

  amplitude : (i : ℕ) → i < 24 → float_in ws (26 + i) ≡ get_or amps i nan
  unfolding float_words
  amplitude i h =
      let n = f.1.1.many in
      ap (λ (w : ℕ). of_bits binary32 w) (word_26 i ∙ each_at float_words 1 one amps (each batch_words filters) i 0 i nan (omega arith) (omega arith)
      (omega arith))
      ∙ back (get_or amps i nan) (every.each_at F32 amps i nan (omega arith) f.1.1.all)

  -- the word j of the batch i
  module _ (i : ℕ) (h : i < 6) where
    abbrev batch : Batch
    batch = get_or filters i no_batch

    word_50 : (j k : ℕ) → k ≡ 50 + (8 * i + j) → j < 8 → float_in ws k ≡ of_bits binary32 (get_or (batch_words batch) j 0)
    word_50 j k e g =
        let n = f.1.1.many in
        let m = f.1.2.many in
        let la : length (each float_words amps) ≡ 24 = length_floats amps n in
        let ek : k ≡ 26 + (24 + (8 * i + j)) = omega arith in
        ap (λ (w : ℕ). of_bits binary32 w)
        (ap (λ (q : ℕ). get_or ws q 0) ek
        ∙ word_26 (24 + (8 * i + j))
        ∙ ap (λ (q : ℕ). get_or (each float_words amps ++ each batch_words filters) (q + (8 * i + j)) 0) (sym la)
        ∙ get_or-append-add (each float_words amps) (each batch_words filters) (8 * i + j) 0
        ∙ ap (λ (l : List ℕ). get_or l (8 * i + j) 0) (sym (append-nil (each batch_words filters)))
        ∙ each_at batch_words 8 eight filters [] i j (8 * i + j) no_batch refl (omega arith) g)

    batch_fits : BatchF32 batch
    batch_fits = let m = f.1.2.many in every.each_at BatchF32 filters i no_batch (omega arith) f.1.2.all

    batch_back : batch_in ws (50 + 8 * i) ≡ batch
    unfolding batch_in mode_in batch_words mode_words BatchF32
    batch_back =
        let k = 50 + 8 * i in
        let b = batch in
        let g = batch_fits in
        λ t. record {
          mode_0 = record {
            state_1 = (word_50 0 k (omega arith) (omega arith) ∙ back b.mode_0.state_1 g.0.0) t;
            state_2 = (word_50 1 (k + 1) (omega arith) (omega arith) ∙ back b.mode_0.state_2 g.0.1) t;
          };
          mode_1 = record {
            state_1 = (word_50 2 (k + 2) (omega arith) (omega arith) ∙ back b.mode_1.state_1 g.1.0) t;
            state_2 = (word_50 3 (k + 2 + 1) (omega arith) (omega arith) ∙ back b.mode_1.state_2 g.1.1) t;
          };
          mode_2 = record {
            state_1 = (word_50 4 (k + 4) (omega arith) (omega arith) ∙ back b.mode_2.state_1 g.2.0) t;
            state_2 = (word_50 5 (k + 4 + 1) (omega arith) (omega arith) ∙ back b.mode_2.state_2 g.2.1) t;
          };
          mode_3 = record {
            state_1 = (word_50 6 (k + 6) (omega arith) (omega arith) ∙ back b.mode_3.state_1 g.3.0) t;
            state_2 = (word_50 7 (k + 6 + 1) (omega arith) (omega arith) ∙ back b.mode_3.state_2 g.3.1) t;
          };
        }

  slot_back : slot_in ws s.modal.held ≡ s
  unfolding slot_in voice_in string_in svf_in dc_in modal_in mode_in slot_words voice_words string_words svf_words dc_words modal_words mode_words
  slot_back =
      let v = s.string in
      let g = f.0 in
      let d = v.string.iir_damping_filter in
      let e = v.excitation_filter in
      let c = v.string.dc_blocker in
      let x = s.modal.excitation_filter in
      λ t. record {
        kind = s.kind;
        string = record {
          excitation_filter = record {
            g = back e.g g.0.0 t;
            r = back e.r g.0.1 t;
            h = back e.h g.0.2 t;
            state_1 = back e.state_1 g.0.3 t;
            state_2 = back
                e.state_2 g.0.4 t;
          };
          string = record {
            string = v.string.string;
            stretch = v.string.stretch;
            iir_damping_filter = record {
              g = back d.g g.1.0.0 t;
              r = back d.r g.1.0.1 t;
              h = back d.h g.1.0.2 t;
              state_1 = back d.state_1 g.1.0.3 t;
              state_2 = back d.state_2 g.1.0.4 t;
            };
            dc_blocker = record { pole = back c.pole g.1.1.0 t; x = back c.x g.1.1.1 t; y = back c.y g.1.1.2 t };
            delay = back v.string.delay g.1.2 t;
            dispersion_noise = back v.string.dispersion_noise g.1.3 t;
            curved_bridge = back v.string.curved_bridge g.1.4 t;
            src_phase = back v.string.src_phase g.1.5 t;
            out_sample_0 = back v.string.out_sample_0 g.1.6 t;
            out_sample_1 = back v.string.out_sample_1 g.1.7 t;
            sample_rate_hz = back v.string.sample_rate_hz g.1.8 t;
          };
          remaining_noise_samples = v.remaining_noise_samples;
        };
        modal = record {
          excitation_filter = record { state_1 = back x.state_1 f.1.0.0 t; state_2 = back x.state_2 f.1.0.1 t };
          resonator = record {
            mode_amplitude = (tab_same 24 (λ i. float_in ws (26 + i)) (λ i. get_or amps i nan) amplitude ∙ tab_get_d amps 24 nan f.1.1.many) t;
            mode_filters = (tab_same 6 (λ i. batch_in ws (50 + 8 * i)) (λ i. get_or filters i no_batch) batch_back ∙ tab_get_d filters 6 no_batch f.1.2.many) t;
          };
          held = s.modal.held;
        };
      }

-- decode after encode
pub decode_encode : DecodeEncode
unfolding decode_slot encode_slot
decode_encode s f n =
    let ws = slot_words s in
    let v = flag_of s.modal.held in
    let l : length (bytes ws) ≡ 392 = length_bytes ws ∙ ap (λ (m : ℕ). 4 * m) (length_slot s f.1) in
    ap (λ (q : List ℕ). slot_in q (eqb (get_or (bytes ws ++ (v ∷ [])) 392 0) 1)) (words_of ws v (slot_small s n f))
    ∙ ap (λ (q : ℕ). slot_in ws (eqb q 1)) (get_or_at (bytes ws) v [] 0 392 l)
    ∙ ap (λ (q : Bool). slot_in ws q) (flag_back s.modal.held)
    ∙ slot_back s f
