-- Kept: over any history a call changes no byte but those that were named.
use Rattle.std.specs.Prelude.{ℕ, ◌+◌, ◌≤◌, ◌<◌, Bool, true, false, cond, ◌&&◌, List, [], ◌∷◌, Option, Some, None, ◌⊎◌, ◌≡◌, eqb, get_or}
use Rattle.flash.specs.Flash.{start_of}
use Rattle.session.specs.declared.Session.{Session}
use Rattle.numbers.specs.Numbers.{word_at, long_at}
use Rattle.request.specs.Request.{request_of}
use Rattle.request.specs.declared.Request.{Request}
use Rattle.answers.specs.Answers.{Leaves}
use Rattle.demands.specs.Calls.{Start, Step, heard, Call, Site, begun, called, after_call, after_calls}
use Rattle.demands.specs.Safe.Fit.{AllowedStart}

-- some bytes of flash that were named: where they begin, and how many they are
pub record NamedRange : Type 0 where
  pub at : ℕ
  pub size : ℕ

-- no bytes
abbrev pub none : NamedRange
none = record { at = 0; size = 0 }

-- an address that is not among them
abbrev pub NotNamed : NamedRange → ℕ → Type 0
NotNamed r k = (k < r.at) ⊎ (r.at + r.size ≤ k)

-- the bytes that the commands name: PROG, number 1, the length's bytes from the block on
abbrev pub prog_names : List ℕ → NamedRange
prog_names d = record { at = start_of (word_at d 2); size = long_at d 4 }

-- ERASE, number 4, the count's blocks
abbrev pub erase_names : List ℕ → NamedRange
erase_names d = record { at = start_of (word_at d 2); size = start_of (word_at d 4) }

-- no other command names bytes to be changed
unfoldable pub command_names : List ℕ → NamedRange
command_names d = cond (eqb (get_or d 0 0) 1) (prog_names d) (cond (eqb (get_or d 0 0) 4) (erase_names d) none)

-- DNLOAD, and no other request
abbrev pub is_dnload : Option Request → Bool
is_dnload (Some Request.Dnload) = true
is_dnload (Some Request.Upload) = false
is_dnload (Some Request.GetStatus) = false
is_dnload (Some Request.ClrStatus) = false
is_dnload (Some Request.GetState) = false
is_dnload (Some Request.Abort) = false
is_dnload (Some Request.Query) = false
is_dnload None = false

-- a DNLOAD that was taken in a state
unfoldable pub took_dnload : ℕ → Session → Call → Leaves → Bool
took_dnload state s c l = eqb (heard l) 0 && is_dnload (request_of c.setup) && eqb s.phase.state.0 state

-- the bytes that a call may change: in state 2 those that its command names, in state 5 those noted of the PROG that it continues;
-- any other call none
unfoldable pub may_change : NamedRange → Session → Call → Leaves → NamedRange
may_change noted s c l =
    cond (took_dnload 2 s c l) (command_names c.bytes) (cond (took_dnload 5 s c l) noted none)

-- what is noted after a call: the bytes that a PROG names that it carried out, else what was noted before
unfoldable pub note_of : NamedRange → Session → Call → Leaves → NamedRange
note_of noted s c l = cond (took_dnload 2 s c l && eqb (get_or c.bytes 0 0) 1) (prog_names c.bytes) noted

-- what is noted after a list of calls
unfoldable pub noted_after : Step → NamedRange → Site → List Call → NamedRange
noted_after step noted at [] = noted
noted_after step noted at (c ∷ cs) =
    noted_after step (note_of noted at.session c (called step at c)) (after_call step at c) cs

-- a call changes no other bytes than it may
abbrev pub ChangesNamed : Step → NamedRange → Site → Call → Type 0
ChangesNamed step noted at c =
    (k : ℕ) → NotNamed (may_change noted at.session c (called step at c)) k
    → get_or (after_call step at c).flash k 0 ≡ get_or at.flash k 0

-- OnlyNamed: after a start and any calls, each call changes no byte but those named by the ERASE or PROG that it carries out, or by
-- the PROG that it continues
abbrev pub OnlyNamed : Start → Step → Type 0
OnlyNamed start step =
    (f : List ℕ) (a b part0 part1 : ℕ) → AllowedStart f a b → (calls : List Call) (c : Call)
    → ChangesNamed step (noted_after step none (begun start f a b part0 part1) calls)
    (after_calls step (begun start f a b part0 part1) calls) c
