-- The number of each reason, 01's to 13 and 02's from 14 on, and the number and the counts of each answer. Assumes nothing.
use Rattle.std.specs.Prelude.{ℕ, Result, Ok, Err}
use Rattle.noise.specs.declared.excitation.Counts.{Counts}
use Rattle.slots.specs.declared.answers.Knob.{Knob}
use Rattle.slots.specs.declared.answers.Knob.TheVariants.{F0, Accent, Structure, Brightness, Damping}
use Rattle.slots.specs.declared.answers.Buffer.{Buffer}
use Rattle.slots.specs.declared.answers.Buffer.TheVariants.{Temp2, Out, Aux}
use Rattle.slots.specs.declared.answers.Reason.{Reason}
use Rattle.slots.specs.declared.answers.Reason.TheVariants as R

abbrev pub knob_number : Knob → ℕ
knob_number F0 = 9
knob_number Accent = 10
knob_number Structure = 11
knob_number Brightness = 12
knob_number Damping = 13

abbrev pub buffer_number : Buffer → ℕ
buffer_number Temp2 = 7
buffer_number Out = 17
buffer_number Aux = 18

abbrev pub reason_number : Reason → ℕ
reason_number R.Memory = 1
reason_number R.NoSlot = 2
reason_number R.Kind = 3
reason_number R.SampleRate = 4
reason_number R.Empty = 5
reason_number R.NoReset = 6
reason_number (R.Length b) = buffer_number b
reason_number R.TooLong = 8
reason_number (R.OutOfRange k) = knob_number k
reason_number R.TooMany = 14
reason_number R.OutOfOrder = 15
reason_number R.PastEnd = 16

abbrev pub no_counts : Counts
no_counts = record { burst = 0; dust = 0; dispersion = 0 }

-- an accepted call has number 0
abbrev pub number_of : Result Counts Reason → ℕ
number_of (Ok c) = 0
number_of (Err r) = reason_number r

-- a refusal has three zeros
abbrev pub counts_of : Result Counts Reason → Counts
counts_of (Ok c) = c
counts_of (Err r) = no_counts
