-- SPDX-License-Identifier: ISC
-- Clauses of one variant of a result.
use Rattle.std.proofs.Common.{Result, Ok, Err, IfOk}

pub if_ok_map : {T E : Type 0} (r : Result T E) {P Q : T → Type 0} → ((x : T) → P x → Q x)
    → IfOk r P → IfOk r Q
if_ok_map (Ok x) f h = f x h
if_ok_map (Err e) f h = tt
