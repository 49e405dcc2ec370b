-- SPDX-License-Identifier: ISC
use Rattle.std.proofs.Common.{◌∙◌, ℕ, Bool, List, ap}
use Rattle.base64.specs.GeneralPurpose.{config_padding, engine_config, engine_padding}
use Rattle.base64.specs.Rfc4648.{encode}
use Rattle.ring_password_hash.specs.Text.{adapted_symbols}
use Rattle.ring_password_hash.proofs.text.adapted.Goals as goal

pub returns-clause-written : goal.returns-clause-written
returns-clause-written c = λ m.
    let e = c.new-2.result in
    let symbols = c.new-2.ensures.symbols ∙ c.in-Ok.ensures.ok.0 in
    let padding = c.new-2.ensures.padding ∙ c.in-Ok.ensures.ok.1 in
    let config = ap config_padding c.new-2.ensures.config in
    ap (λ (t : List ℕ). encode t (engine_padding e) (config_padding (engine_config e)) m) symbols
    ∙ ap (λ (p : ℕ). encode adapted_symbols p (config_padding (engine_config e)) m) padding
    ∙ ap (λ (b : Bool). encode adapted_symbols 61 b m) config
