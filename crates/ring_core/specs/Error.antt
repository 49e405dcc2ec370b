-- SPDX-License-Identifier: ISC
-- What an error tells.
use Rattle.ring_core.specs.declared.error.InputTooLongError.{InputTooLongError}

-- the length that was refused
abbrev pub refused_length : {T : Type 0} → InputTooLongError T → T
refused_length error = error.length
