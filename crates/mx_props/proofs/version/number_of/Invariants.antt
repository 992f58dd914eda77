use Rattle.std.proofs.Common.{◌≡◌, ◌<◌, ◌^◌, take}
use Rattle.mx_props.specs.Version.{number_of}
use Rattle.mx_props.proofs.version.number_of.Given as goal

abbrev pub invariant-loop-digit : goal.invariant-loop-digit
invariant-loop-digit l = record { read : l.number ≡ number_of (take l.digit-index l.digits); small : l.number < 10 ^ l.digit-index }
