use Rattle.std.proofs.Common.{◌∙◌, ap, sym, map}
use Rattle.std.specs.Prelude.{not}
use lib.Lanes.{mask_l}
use Rattle.code_units.specs.Runs.{is_of}
use Rattle.code_units.proofs.Lanes.{digit_bits, hexadecimal_bits, zero_bits, blank_bits, ascii_bits}
use Rattle.code_units.proofs.runs.others.Goals as goal

pub returns-in-Digit : goal.returns-in-Digit
returns-in-Digit c = digit_bits c.args.v c.requires ∙ sym (ap (λ k. mask_l (map (λ u. not (is_of k u)) c.args.v)) c.in-Digit.is)

pub returns-in-Hexadecimal : goal.returns-in-Hexadecimal
returns-in-Hexadecimal c = hexadecimal_bits c.args.v c.requires ∙ sym (ap (λ k. mask_l (map (λ u. not (is_of k u)) c.args.v)) c.in-Hexadecimal.is)

pub returns-in-Zero : goal.returns-in-Zero
returns-in-Zero c = zero_bits c.args.v c.requires ∙ sym (ap (λ k. mask_l (map (λ u. not (is_of k u)) c.args.v)) c.in-Zero.is)

pub returns-in-Blank : goal.returns-in-Blank
returns-in-Blank c = blank_bits c.args.v c.requires ∙ sym (ap (λ k. mask_l (map (λ u. not (is_of k u)) c.args.v)) c.in-Blank.is)

pub returns-in-Ascii : goal.returns-in-Ascii
returns-in-Ascii c = ascii_bits c.args.v c.requires ∙ sym (ap (λ k. mask_l (map (λ u. not (is_of k u)) c.args.v)) c.in-Ascii.is)
