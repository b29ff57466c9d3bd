-- The numbers of the eight-byte commands.
use Rattle.std.specs.Prelude.{ℕ, ◌<◌, List, ◌++◌, ◌≡◌, ◌⊎◌, Result, MatchResult, codes}
use Rattle.std.specs.Fmt.{decimal}
use Rattle.request.specs.declared.Command.{Command}
use Rattle.request.specs.declared.Command.TheVariants.{Prog, Read, Check, Erase, Info, Bin, Reset}
use Rattle.request.specs.declared.UnknownCommand.{UnknownCommand}

abbrev pub prog : ℕ
prog = 1

abbrev pub read : ℕ
read = 2

abbrev pub check : ℕ
check = 3

abbrev pub erase : ℕ
erase = 4

abbrev pub info : ℕ
info = 5

abbrev pub bin : ℕ
bin = 6

abbrev pub reset : ℕ
reset = 7

-- the number of a command
abbrev pub number_of : Command → ℕ
number_of Prog = prog
number_of Read = read
number_of Check = check
number_of Erase = erase
number_of Info = info
number_of Bin = bin
number_of Reset = reset

-- what a number is read as: the command with this number, or that it is no command's
abbrev pub Decodes : ℕ → Result Command UnknownCommand → Type 0
Decodes number r = MatchResult r (λ command. number_of command ≡ number) (λ e. (e.0 ≡ number) × ((number ≡ 0) ⊎ (reset < number)))

-- the refusal of a number in words
abbrev pub unknown_words : UnknownCommand → List ℕ
unknown_words e = codes "no command has number " ++ decimal e.0
