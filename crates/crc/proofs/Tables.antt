-- The constants are the computed lists, entry by entry: so many squarings of the bit step make each table of the joins. Assumes nothing.
use mathlib.Core.Path.{◌≡◌, refl, sym, ◌∙◌}
use Rattle.crc.specs.declared.remainders.TheConstants.{TABLE}
use Rattle.crc.specs.declared.halves.TheConstants.{OF_4, OF_16, OF_32, OF_64, OF_128, OF_1024}
use Rattle.crc.specs.Values.{values}
use Rattle.crc.specs.Crc.{bit_step, bit_steps, remainders}
use Rattle.crc.specs.Join.{half_rows, past_halves}
use Rattle.crc.proofs.Columns.{through, squared, columns_of, halves, halves_are}

pub table_is : TABLE ≡ remainders
unfolding remainders values bit_steps bit_step
table_is = sym (refl {a = remainders})

pub of_4 : OF_4 ≡ past_halves 32
unfolding halves half_rows columns_of squared through values bit_step
of_4 = sym (refl {a = halves (columns_of 5)}) ∙ halves_are 5

pub of_16 : OF_16 ≡ past_halves 128
unfolding halves half_rows columns_of squared through values bit_step
of_16 = sym (refl {a = halves (columns_of 7)}) ∙ halves_are 7

pub of_32 : OF_32 ≡ past_halves 256
unfolding halves half_rows columns_of squared through values bit_step
of_32 = sym (refl {a = halves (columns_of 8)}) ∙ halves_are 8

pub of_64 : OF_64 ≡ past_halves 512
unfolding halves half_rows columns_of squared through values bit_step
of_64 = sym (refl {a = halves (columns_of 9)}) ∙ halves_are 9

pub of_128 : OF_128 ≡ past_halves 1024
unfolding halves half_rows columns_of squared through values bit_step
of_128 = sym (refl {a = halves (columns_of 10)}) ∙ halves_are 10

pub of_1024 : OF_1024 ≡ past_halves 8192
unfolding halves half_rows columns_of squared through values bit_step
of_1024 = sym (refl {a = halves (columns_of 13)}) ∙ halves_are 13

-- each constant's rule, for who names the constant
pub ruleset rules_of_tables = (of_4, of_16, of_32, of_64, of_128, of_1024)
