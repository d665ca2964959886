-- A sheet on bytes: what a render leaves of a turn, and that good bytes stay good. Assumes nothing.
use mathlib.Core.Path.{◌≡◌, refl, sym, ap, ◌∙◌, subst}
use mathlib.Core.Bool.{Bool, true, false, not}
use mathlib.Core.List.{List}
use Prim.Native.Nat.{ℕ, ◌+◌, ◌≤◌, ◌<◌}
use lib.ListN.{length, drop, set, replicate}
use lib.Ieee.{Float}
use native.Mathlib.Omega.{arith}
use Rattle.std.specs.Prelude.{Result, Ok, Err}
use Rattle.slots.specs.declared.answers.Knob.{Knob}
use Rattle.slots.specs.declared.answers.Knob.TheVariants as K
use Rattle.slots.specs.declared.answers.Buffer.{Buffer}
use Rattle.slots.specs.declared.answers.Buffer.TheVariants as B
use Rattle.slots.specs.declared.answers.Reason.{Reason}
use Rattle.slots.specs.declared.answers.Reason.TheVariants as R
use Rattle.slots.specs.Answers.{knob_number, buffer_number, reason_number, no_counts}
use Rattle.noise.specs.declared.excitation.Knobs.{Knobs}
use Rattle.noise.specs.declared.excitation.Counts.{Counts}
use Rattle.noise.specs.Excitation.{Alike}
use Rattle.slots.specs.Calls.{Bufs, render}
use Rattle.slots.specs.Table.{Call, bad}
use Rattle.bank.specs.World.{World, call_def}
use Rattle.ground.proofs.Bools.{or_false}
use Rattle.claims.proofs.OneCall.{Inv, inv_of, not_bad, stays_sound}
use Rattle.player.specs.declared.play.Told.{Told}
use Rattle.player.specs.declared.sheet.Event.{Event}
use Rattle.player.specs.Owners.{event_at}
use Rattle.player.specs.Sheet.{AreF32, sheet_verdict, until, Cue, cue_of}
use Rattle.player.specs.Play.{told, refused_answers, span, put_span, Playing, bank_move}
use Rattle.player.proofs.Turns.{turned, Sofar, begun, again, all_done, all_given, refused_whole, played_whole}
use Rattle.slot_bytes.specs.Layout.{parts, decode_bank}
use Rattle.bank_abi.specs.Crossing.{is_bank, bad_bytes, Crossing, world_of, Crossed, Gives}
use Rattle.bank_abi.specs.Sheets.{crossed, cross_move, decoded_play, Turned, AllTurned, GivesSheet}

-- ---- good bytes

eight_slots : (bs : List ℕ) → length (decode_bank bs).slots ≡ 8
unfolding decode_bank parts
eight_slots bs = refl

pub record GoodBank (bs : List ℕ) (mem : List Float) : Type 0 where
  pub bank : is_bank bs ≡ true
  pub good : bad (decode_bank bs) mem ≡ false

pub good_bank : (bs : List ℕ) (mem : List Float) → bad_bytes bs mem ≡ false → GoodBank bs mem
unfolding bad_bytes
good_bank bs mem e =
    let o = or_false (not (is_bank bs)) (bad (decode_bank bs) mem) e in
    record { bank = flip (is_bank bs) o.0; good = o.1 }
  where
    flip : (b : Bool) → not b ≡ false → b ≡ true
    flip true e = refl
    flip false e = sym e

bytes_good : (bs : List ℕ) (mem : List Float) → is_bank bs ≡ true → bad (decode_bank bs) mem ≡ false → bad_bytes bs mem ≡ false
unfolding bad_bytes
bytes_good bs mem b g = rw (b, g)

module _ (x : Crossing) (c : Call) (y : Crossed) (e : bad_bytes x.bytes x.mem ≡ false) (g : Gives x c y) where
  after_is : (call_def (world_of x) c).after ≡ world_of y.after
  after_is = ap (λ (q : ℕ × Counts × World × Bufs). q.2) (g.agrees (good_bank x.bytes x.mem e).bank)

  pub stays_good : bad_bytes y.after.bytes y.after.mem ≡ false
  stays_good =
      let b = good_bank x.bytes x.mem e in
      let i : Inv (world_of x) = inv_of (world_of x) (eight_slots x.bytes) b.good in
      let j : Inv (world_of y.after) = subst Inv after_is (stays_sound (world_of x) i c g.given) in
      bytes_good y.after.bytes y.after.mem (g.stays b.bank) (not_bad (world_of y.after) j)

  -- ---- a turn

  move_is : bank_move (world_of x) c ≡ record { told = told y.number y.counts; after = world_of y.after; bufs = y.bufs }
  move_is = ap (λ (q : ℕ × Counts × World × Bufs). record { told = told q.0 q.1; after = q.2; bufs = q.3 }) (g.agrees (good_bank x.bytes x.mem e).bank)

pub turned_by : (x : Crossing) (q : Cue) (b : Bufs) (ts : List Told) (k : Knobs) (y : Crossed) → bad_bytes x.bytes x.mem ≡ false → k ≡ q.knobs
    → Gives x (record { slot = q.slot; act = render k (span q b) }) y
    → Turned (record { world = x; bufs = b; answers = ts }) q
    (record { world = y.after; bufs = put_span q y.bufs b; answers = set ts q.place (told y.number y.counts) })
turned_by x q b ts k y e ek g =
    let c : Call = record { slot = q.slot; act = render k (span q b) } in
    record {
      is = turned cross_move x q b ts k (crossed y) ek (ap crossed g.is);
      agrees = turned bank_move (world_of x) q b ts k _ ek (move_is x c y e g);
      good = stays_good x c y e g;
    }

-- ---- the loop over a sheet's events, on bytes and on the bank that they are
pub record Both (es : List Event) (n : ℕ) (s₀ : Playing Crossing) (i : ℕ) (s : Playing Crossing) : Type 0 where
  pub bytes : Sofar cross_move es n s₀ i s
  pub bank : Sofar bank_move es n (decoded_play s₀) i (decoded_play s)
  pub good : bad_bytes s.world.bytes s.world.mem ≡ false

pub both_begun : (es : List Event) (s₀ : Playing Crossing) → Alike s₀.bufs.temp s₀.bufs.temp2 s₀.bufs.out s₀.bufs.aux → length s₀.answers ≡ 64
    → bad_bytes s₀.world.bytes s₀.world.mem ≡ false → Both es (length s₀.bufs.temp) s₀ 0 s₀
both_begun es s₀ a r g = record { bytes = begun cross_move es s₀ a r; bank = begun bank_move es (decoded_play s₀) a r; good = g }

pub both_again : {es : List Event} {n i : ℕ} {s₀ s s' : Playing Crossing} {to : ℕ} → Both es n s₀ i s → i < length es
    → to ≡ until n (event_at es i).slot (drop (i + 1) es) → Turned s (cue_of i (event_at es i) to) s'
    → length s'.bufs.temp ≡ length s.bufs.temp → length s'.bufs.temp2 ≡ length s.bufs.temp2 → length s'.bufs.out ≡ length s.bufs.out
    → length s'.bufs.aux ≡ length s.bufs.aux → length s'.answers ≡ length s.answers → AreF32 (event_at es i) → Both es n s₀ (i + 1) s'
both_again f h e t lt lt2 lo la lr g =
    record {
      bytes = again cross_move f.bytes h e t.is lt lt2 lo la lr g;
      bank = again bank_move f.bank h e t.agrees lt lt2 lo la lr g;
      good = t.good;
    }

pub both_done : {es : List Event} {i : ℕ} {s₀ s : Playing Crossing} → Both es (length s₀.bufs.temp) s₀ i s → length es ≤ i → AllTurned s₀ es s
both_done f h =
    record {
      is = all_done cross_move f.bytes h;
      agrees = all_done bank_move f.bank h;
      good = f.good;
      given = all_given cross_move f.bytes h;
    }

-- ---- a sheet by the table's word

knob_above : (k : Knob) → knob_number k ≡ 0 → ⊥
knob_above K.F0 e = absurd (omega (arith, e))
knob_above K.Accent e = absurd (omega (arith, e))
knob_above K.Structure e = absurd (omega (arith, e))
knob_above K.Brightness e = absurd (omega (arith, e))
knob_above K.Damping e = absurd (omega (arith, e))

buffer_above : (b : Buffer) → buffer_number b ≡ 0 → ⊥
buffer_above B.Temp2 e = absurd (omega (arith, e))
buffer_above B.Out e = absurd (omega (arith, e))
buffer_above B.Aux e = absurd (omega (arith, e))

above : (r : Reason) → reason_number r ≡ 0 → ⊥
above R.Memory e = absurd (omega (arith, e))
above R.NoSlot e = absurd (omega (arith, e))
above R.Kind e = absurd (omega (arith, e))
above R.SampleRate e = absurd (omega (arith, e))
above R.Empty e = absurd (omega (arith, e))
above R.NoReset e = absurd (omega (arith, e))
above (R.Length b) e = buffer_above b e
above R.TooLong e = absurd (omega (arith, e))
above (R.OutOfRange k) e = knob_above k e
above R.TooMany e = absurd (omega (arith, e))
above R.OutOfOrder e = absurd (omega (arith, e))
above R.PastEnd e = absurd (omega (arith, e))

module _ (s : Playing Crossing) (es : List Event) where
  number_one : Bool
  number_one = bad_bytes s.world.bytes s.world.mem

  -- of bytes that are a bank, number 1 is the bank's
  same_number : is_bank s.world.bytes ≡ true → number_one ≡ bad (decode_bank s.world.bytes) s.world.mem
  unfolding bad_bytes number_one
  same_number e = rw e

  same_verdict : {v : Result (Unit {0}) Reason} → is_bank s.world.bytes ≡ true → sheet_verdict number_one es (length s.answers) s.bufs ≡ v
      → sheet_verdict (bad (decode_bank s.world.bytes) s.world.mem) es (length s.answers) s.bufs ≡ v
  same_verdict b e = ap (λ (x : Bool). sheet_verdict x es (length s.answers) s.bufs) (sym (same_number b)) ∙ e

  pub sheet_refused : (r : Reason) {n : ℕ} {ts : List Told} → sheet_verdict (bad_bytes s.world.bytes s.world.mem) es (length s.answers) s.bufs ≡ Err r
      → n ≡ reason_number r → ts ≡ refused_answers r s.answers → GivesSheet s es (n, record s { answers = ts })
  unfolding number_one
  sheet_refused r {n} {ts} e en et =
      record {
        is = refused_whole cross_move number_one es s r e ∙ λ i. (sym en i, record s { answers = sym et i });
        agrees = λ b. refused_whole bank_move (bad (decode_bank s.world.bytes) s.world.mem) es (decoded_play s) r (same_verdict b e)
            ∙ λ i. (sym en i, record (decoded_play s) { answers = sym et i });
        stays = λ b. b;
        given = λ z. absurd (above r (sym en ∙ z));
      }

  pub sheet_played : (ts : List Told) (s' : Playing Crossing) → sheet_verdict (bad_bytes s.world.bytes s.world.mem) es (length s.answers) s.bufs ≡ Ok tt
      → ts ≡ replicate 64 (told 0 no_counts) → AllTurned (record s { answers = ts }) es s' → GivesSheet s es (0, s')
  unfolding number_one
  sheet_played ts s' e et t =
      record {
        is = played_whole cross_move number_one es s ts s' e et t.is;
        agrees = λ b. played_whole bank_move (bad (decode_bank s.world.bytes) s.world.mem) es (decoded_play s) ts (decoded_play s') (same_verdict b e) et
            t.agrees;
        stays = λ b. (good_bank s'.world.bytes s'.world.mem t.good).bank;
        given = λ z. t.given;
      }
