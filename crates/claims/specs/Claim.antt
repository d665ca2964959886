-- Demand 3: the voice heard alone, and the claim about a whole list of calls. Assumes nothing.
use Rattle.std.specs.Prelude.{◌≡◌, ◌≢◌, cond, List, [], ◌∷◌, ◌++◌, map, ℕ, suc, ◌+◌, ◌^◌, ◌<◌, zero, eqb, length, get_or, Float, Result, Ok, Err}
use Rattle.std.proofs.Math.Option.{Option, none, some}
use Rattle.ground.specs.Draw.{Draw, value, ending, words, moved, fed}
use Rattle.ground.specs.Each.{Each}
use Rattle.noise.specs.declared.excitation.Knobs.{Knobs}
use Rattle.noise.specs.declared.excitation.Counts.{Counts}
use Rattle.string_voice.specs.StringVoice as string
use Rattle.modal_voice.specs.ModalVoice as modal
use Rattle.slots.specs.declared.answers.Reason.{Reason}
use Rattle.slots.specs.declared.answers.Reason.TheVariants.{Memory}
use Rattle.slots.specs.Answers.{no_counts, counts_of, number_of}
use Rattle.slots.specs.Slots.{empty_slot}
use Rattle.slots.specs.Calls.{Bufs, Act, render, InF32, lent, Voice, Done, act_def}
use Rattle.slots.specs.Table.{Call}
use Rattle.bank.specs.World.{start, lines_at, voice_at, Event, run_from, end_from}
use Rattle.claims.specs.Ledger.{Line, ledger}

-- ---- the voice heard alone

-- at a call of the list a slot's voice is fed the call with the words dealt to it, or nothing
pub data Feed : Type 0 where
  nothing : Feed
  given : Act → List ℕ → Feed

-- it is fed the accepted calls that name its slot, by the ledger's answer
abbrev pub feed : ℕ → Call → Result Counts Reason → List ℕ → Feed
feed s c (Ok n) ws = cond (eqb c.slot s) (given c.act ws) nothing
feed s c (Err r) ws = nothing

abbrev pub feeds : ℕ → List Call → List Line → List (List ℕ) → List Feed
feeds s [] ls wss = []
feeds s (c ∷ cs) [] wss = []
feeds s (c ∷ cs) (l ∷ ls) [] = []
feeds s (c ∷ cs) (l ∷ ls) (ws ∷ wss) = feed s c l.answer ws ∷ feeds s cs ls wss

-- what is heard of it at a call: the voice after it, and the buffers after a call of its own
pub record Noted : Type 0 where
  pub voice : Voice
  pub bufs : Option Bufs

abbrev pub of_done : Option Done → Option Noted
of_done none = none
of_done (some d) = some (record { voice = d.voice; bufs = some d.bufs })

-- each call moves it by its definition, whose draws take the words fed: `none` where one is lacking or over
abbrev pub listen : Voice → Feed → Option Noted
listen v nothing = some (record { voice = v; bufs = none })
listen v (given a ws) = of_done (fed (act_def a v) ws)

abbrev pub note : Noted → Option (List Noted) → Option (List Noted)
note h none = none
note h (some hs) = some (h ∷ hs)

abbrev pub go_on : Option Noted → (Voice → Option (List Noted)) → Option (List Noted)
go_on none k = none
go_on (some h) k = note h (k h.voice)

abbrev pub alone : Voice → List Feed → Option (List Noted)
alone v [] = some []
alone v (f ∷ fs) = go_on (listen v f) (λ u. alone u fs)

-- ---- the same, of slot s in the bank after an event

abbrev pub own : ℕ → Result Counts Reason → Event → Option Bufs
own s (Ok n) e = cond (eqb e.call.slot s) (some e.bufs) none
own s (Err r) e = none

abbrev pub seen : ℕ → Event → Noted
seen s e = record { voice = voice_at s e.after; bufs = own s e.answer e }

-- ---- sums over the list

abbrev pub sum_of : {A : Type 0} → (A → ℕ) → List A → ℕ
sum_of f [] = 0
sum_of f (x ∷ xs) = f x + sum_of f xs

abbrev pub joined : List (List ℕ) → List ℕ
joined [] = []
joined (x ∷ xs) = x ++ joined xs

-- the sum of all counts that the calls reported
abbrev pub total : Counts → ℕ
total c = c.burst + c.dust + c.dispersion

abbrev pub drawn : List Event → ℕ
drawn es = sum_of (λ e. total (counts_of e.answer)) es

-- the words dealt, in the order of the draws
abbrev pub dealt : List Event → List ℕ
dealt es = joined (map (λ e. e.dealt) es)

-- nothing changed at this call
pub record Kept (e : Event) : Type 0 where
  pub world : e.after ≡ e.before
  pub bufs : e.bufs ≡ lent e.call.act
  pub counts : counts_of e.answer ≡ no_counts
  pub dealt : e.dealt ≡ []

-- ---- the order of a render's words

-- dealt from the word w, the words are those of its first half, as many as burst and dust count, and then those of its second, as many as dispersion counts
pub record InOrder {X Y : Type 0} (first : Draw X) (second : X → Draw Y) (w : ℕ) (n : Counts) (dealt : List ℕ) : Type 0 where
  pub both : dealt ≡ words first w ++ words (second (value first w)) (ending first w)
  pub excitation : length (words first w) ≡ n.burst + n.dust
  pub string : length (words (second (value first w)) (ending first w)) ≡ n.dispersion

-- the halves of a render, by the slot's kind: its excitation, and then its string or its modes
abbrev pub render_order : ℕ → Knobs → Bufs → Voice → ℕ → Counts → List ℕ → Type 0
render_order zero k b v = λ w n dealt. Unit {0}
render_order (suc zero) k b v =
    InOrder (string.excite_of k v.slot.string b.temp b.temp2 b.aux) (λ e. string.sound_of k e.voice v.lines e.temp2 b.out)
render_order (suc (suc j)) k b v =
    InOrder (modal.excite_of k v.slot.modal b.temp b.temp2 b.aux) (λ e. modal.sound_of k e.voice e.temp2 b.out)

-- of a render that is accepted; no other call is dealt words
abbrev pub call_order : Act → Result Counts Reason → Voice → ℕ → List ℕ → Type 0
call_order (render k b) (Ok n) v w dealt = render_order v.slot.kind k b v w n dealt
call_order a r v w dealt = dealt ≡ []

abbrev pub Ordered : Event → Type 0
Ordered e = call_order e.call.act e.answer (voice_at e.call.slot e.before) e.before.word e.dealt

-- ---- the claim

pub record Account (seed : ℕ) (mem : List Float) (calls : List Call) (es : List Event) (ls : List Line) : Type 0 where
  -- each call's answer, its reason or its counts, is the ledger's
  pub answers : map (λ e. e.answer) es ≡ map (λ l. l.answer) ls
  -- drawn = burst + dust + dispersion, of the ledger
  pub balance : drawn es
      ≡ sum_of (λ l. (counts_of l.answer).burst) ls + sum_of (λ l. (counts_of l.answer).dust) ls + sum_of (λ l. (counts_of l.answer).dispersion) ls
  -- as many words are dealt as were counted, and the k-th is the seed moved k times
  pub dealt_length : length (dealt es) ≡ drawn es
  pub dealt_at : (k : ℕ) → k < drawn es → get_or (dealt es) k 0 ≡ moved (suc k) seed
  -- burst or dust words of a block are drawn before its dispersion words
  pub in_order : Each Ordered es
  -- the generator ends at the seed moved drawn times
  pub ends : (end_from (start seed mem) calls).word ≡ moved (drawn es) seed
  -- a refused call changes nothing
  pub kept : Each (λ e. number_of e.answer ≢ 0 → Kept e) es
  -- every slot is its voice heard alone, after every call: none of its words is lacking, and none is over
  pub apart : length mem ≡ 10240 → (s : ℕ) → s < 8
      → alone (record { slot = empty_slot; lines = lines_at s mem }) (feeds s calls ls (map (λ e. e.dealt) es)) ≡ some (map (seen s) es)
  -- line memory of another length: every call is refused with 1, nothing is drawn and nothing changes
  pub short : length mem ≢ 10240 → Each (λ e. e.answer ≡ Err Memory) es × (end_from (start seed mem) calls ≡ start seed mem) × (drawn es ≡ 0)

-- a call as code makes it: its structure is an f32
pub record Asked : Type 0 where
  pub call : Call
  pub f32 : InF32 call.act

abbrev pub calls_of : List Asked → List Call
calls_of asked = map (λ a. a.call) asked

-- demand 3: of every seed, line memory and list of calls
unfoldable pub Demand3 : Type 0
Demand3 = (seed : ℕ) → seed < 2 ^ 32 → (mem : List Float) (asked : List Asked)
    → Account seed mem (calls_of asked) (run_from (start seed mem) (calls_of asked)) (ledger (length mem) (calls_of asked))
