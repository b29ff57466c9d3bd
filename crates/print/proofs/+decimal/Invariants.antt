-- The measure is the number itself, and its quotient by ten is less.
use Rattle.print.proofs.+decimal.Given as goal

abbrev pub decreases-decimal : goal.decreases-decimal
decreases-decimal l = l.n
