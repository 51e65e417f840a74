-- The numbers of statuses.
use Rattle.std.specs.Prelude.{ℕ}
use Rattle.run_steps.specs.declared.ending.Status.{Status}
use Rattle.run_steps.specs.declared.ending.Status.TheVariants as status

-- the exit status of the program; no status has the number 9
abbrev pub number_of : Status → ℕ
number_of status.Ok = 0
number_of status.Refused = 1
number_of status.Usage = 2
number_of status.BadManifest = 3
number_of status.BadTrace = 4
number_of status.TooLarge = 5
number_of status.ReadFault = 6
number_of status.WriteFault = 7
number_of status.Memory = 8
number_of status.CertTooLarge = 10
number_of status.BadCert = 11
