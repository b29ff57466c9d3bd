-- The numbers that the host hears for states and statuses.
use Rattle.std.specs.Prelude.{ℕ, suc, Bool, false, cond, ◌||◌, List, [], ◌∷◌, eqb}

-- the states by name
abbrev pub idle : ℕ
idle = 2

abbrev pub download_sync : ℕ
download_sync = 3

abbrev pub download_idle : ℕ
download_idle = 5

abbrev pub manifest_sync : ℕ
manifest_sync = 6

abbrev pub upload_idle : ℕ
upload_idle = 9

abbrev pub error : ℕ
error = 10

-- the states, in the order of the paper
abbrev pub states : List ℕ
states = idle ∷ download_sync ∷ download_idle ∷ manifest_sync ∷ upload_idle ∷ error ∷ []

-- whether a number is in a list
abbrev pub is_in : ℕ → List ℕ → Bool
is_in n [] = false
is_in n (x ∷ xs) = eqb n x || is_in n xs

-- where in a list a number is; the list's length where it isn't there
abbrev pub place_in : ℕ → List ℕ → ℕ
place_in n [] = 0
place_in n (x ∷ xs) = cond (eqb n x) 0 (suc (place_in n xs))

-- a number is a state
abbrev pub known_state : ℕ → Bool
known_state n = is_in n states

-- a state's column in tables: its place among the states
abbrev pub column_of : ℕ → ℕ
column_of n = place_in n states

-- the status of every state but error
abbrev pub ok : ℕ
ok = 0x00

-- the statuses of state error
abbrev pub check_erased : ℕ
check_erased = 0x05

abbrev pub address : ℕ
address = 0x08

abbrev pub not_done : ℕ
not_done = 0x09

abbrev pub vendor : ℕ
vendor = 0x0B

abbrev pub stalled : ℕ
stalled = 0x0F

-- a status of state error
abbrev pub error_status : ℕ → Bool
error_status n =
    eqb n check_erased
    || eqb n address
    || eqb n not_done
    || eqb n vendor
    || eqb n stalled
