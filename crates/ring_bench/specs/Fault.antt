-- SPDX-License-Identifier: ISC
-- What was read, and why nothing was.
use Rattle.std.specs.Prelude.{◌≡◌, Option, None, Some, Result, Ok, Err, ⊤}
use Rattle.ring_bench.specs.declared.field.Fault.{Fault}
use Rattle.ring_bench.specs.declared.field.Fault.TheVariants.{Bad, Memory}

-- a value was read that shows what is said, or nothing is said and it was bad; or there was no
-- memory to tell
abbrev pub Reads : {V X : Type 0} → (V → X) → Option X → Result V Fault → Type 0
Reads shown said (Ok value) = said ≡ Some (shown value)
Reads shown said (Err Bad) = said ≡ None
Reads shown said (Err Memory) = ⊤

-- the same of what takes no memory, and never tells that there was none
abbrev pub ReadsAlone : {V X : Type 0} → (V → X) → Option X → Result V Fault → Type 0
ReadsAlone shown said (Ok value) = said ≡ Some (shown value)
ReadsAlone shown said (Err Bad) = said ≡ None
ReadsAlone shown said (Err Memory) = ⊥
