-- Laws of the requests: a request has its form, the table says what the states allow, and a number is read as one command or as none.
use Prim.Native.Nat.{ℕ, zero, suc, ◌≤◌, ◌<◌}
use mathlib.Core.Path.{◌≡◌, refl, sym, ap, ◌∙◌}
use mathlib.Core.Bool.{Bool, true, false, cond, not, ◌&&◌, and-true, or-false}
use native.Mathlib.Decide.{ℕ_discrete}
use mathlib.Core.List.{List, [], ◌∷◌, map}
use native.Mathlib.Omega.{arith}
use Rattle.std.specs.Prelude.{Option, Some, None, Result, Ok, Err}
use lib.Dec.{eqb, leb}
use lib.ListN.{length, get_or}
use borrow.Author.Tests.{eqb-true, leb-true, ne_eqb, lt-ltb, le-ltb}
use Rattle.session.specs.Codes.{idle, download_idle, upload_idle, error, states, known_state, column_of}
use Rattle.session.specs.Fit.{is_idle, is_download_idle, is_upload_idle, is_error}
use Rattle.session.proofs.Tests.{left_of, right_of}
use Rattle.session.proofs.Laws.{no_state, column_known, at_column}
use Rattle.request.specs.declared.Setup.{Setup}
use Rattle.request.specs.declared.Request.{Request}
use Rattle.request.specs.declared.Request.TheVariants.{Dnload, Upload, GetStatus, ClrStatus}
use Rattle.request.specs.declared.Request.TheVariants.{GetState, Abort, Query}
use Rattle.request.specs.Request.{setup_of, has_form, in_form, form_of, request_of, w_length, data_asked}
use Rattle.request.specs.Request.{allowed_of, row_of}
use Rattle.request.specs.declared.Command.{Command}
use Rattle.request.specs.declared.Command.TheVariants.{Prog, Read, Check, Erase, Info, Bin, Reset}
use Rattle.request.specs.declared.UnknownCommand.{UnknownCommand}
use Rattle.request.specs.Commands.{number_of, reset, Decodes}

-- what holds of both picks where the test led to them holds of the pick
picked :
    {A : Type 0} (P : A → Type 0) (t : Bool) (x y : A)
    → (t ≡ true → P x) → (t ≡ false → P y) → P (cond t x y)
picked P true x y h k = h refl
picked P false x y h k = k refl

some_is : {q r : Request} → Some q ≡ Some r → q ≡ r
some_is e = cc

-- a setup has the form of the request that it is
pub form_right : (s : Setup) (r : Request) → form_of s ≡ Some r → in_form r s ≡ true
unfolding form_of
form_right s r =
    let P : Option Request → Type 0 = λ q. q ≡ Some r → in_form r s ≡ true in
    picked P (in_form Dnload s) (Some Dnload) _ (λ e q. rw (← some_is q) e) λ _.
    picked P (in_form Upload s) (Some Upload) _ (λ e q. rw (← some_is q) e) λ _.
    picked P (in_form GetStatus s) (Some GetStatus) _ (λ e q. rw (← some_is q) e) λ _.
    picked P (in_form ClrStatus s) (Some ClrStatus) _ (λ e q. rw (← some_is q) e) λ _.
    picked P (in_form GetState s) (Some GetState) _ (λ e q. rw (← some_is q) e) λ _.
    picked P (in_form Abort s) (Some Abort) _ (λ e q. rw (← some_is q) e) λ _.
    picked P (in_form Query s) (Some Query) None (λ e q. rw (← some_is q) e) λ _ q. cc

-- what a form says of the parts
pub form_facts :
    (s : Setup) (kind number least most : ℕ) → has_form s kind number least most ≡ true
    → (s.kind ≡ kind) × (s.number ≡ number) × (s.index ≡ 0) × (least ≤ s.length) × (s.length ≤ most)
form_facts s kind number least most e =
    let is_kind = eqb s.kind kind in
    let is_number = eqb s.number number in
    let no_index = eqb s.index 0 in
    let enough = leb least s.length in
    let e4 = left_of (is_kind && is_number && no_index && enough) (leb s.length most) e in
    let e3 = left_of (is_kind && is_number && no_index) enough e4 in
    let e2 = left_of (is_kind && is_number) no_index e3 in (
      eqb-true _ _ (left_of is_kind is_number e2),
      eqb-true _ _ (right_of is_kind is_number e2),
      eqb-true _ _ (right_of (is_kind && is_number) no_index e3),
      leb-true _ _ (right_of (is_kind && is_number && no_index) enough e4),
      leb-true _ _ (right_of (is_kind && is_number && no_index && enough) (leb s.length most) e),
    )

-- a DNLOAD brings as many bytes as its wLength says, 1,024 at most
pub dnload-data_asked : (bytes : List ℕ) → request_of bytes ≡ Some Dnload → data_asked bytes ≡ w_length bytes
unfolding data_asked
dnload-data_asked bytes e =
    let s = setup_of bytes in
    let f = form_facts s 0x21 1 0 1024 (form_right s Dnload e) in
    rw (f.0, f.1)

pub dnload-length : (bytes : List ℕ) → request_of bytes ≡ Some Dnload → w_length bytes ≤ 1024
dnload-length bytes e =
    let s = setup_of bytes in
    (form_facts s 0x21 1 0 1024 (form_right s Dnload e)).4

-- an UPLOAD asks for 1 to 1,024 bytes
pub upload-length : (bytes : List ℕ) → request_of bytes ≡ Some Upload → (1 ≤ w_length bytes) × (w_length bytes ≤ 1024)
upload-length bytes e =
    let s = setup_of bytes in
    let f = form_facts s 0xA1 2 1 1024 (form_right s Upload e) in
    (f.3, f.4)

-- nothing is allowed in what is no state
unknown : (r : Request) (n : ℕ) → known_state n ≡ false → allowed_of r 1 n ≡ false
unfolding allowed_of
unknown Dnload n k =
    rw (ne_eqb n idle (λ e. no_state n k (is_idle e)), ne_eqb n download_idle (λ e. no_state n k (is_download_idle e)))
unknown Upload n k =
    rw (ne_eqb n idle (λ e. no_state n k (is_idle e)), ne_eqb n upload_idle (λ e. no_state n k (is_upload_idle e)))
unknown GetStatus n k = k
unknown ClrStatus n k = ne_eqb n error (λ e. no_state n k (is_error e))
unknown GetState n k = k
unknown Abort n k = rw k
unknown Query n k = k

-- the table, computed: of requests that bring a byte, by states
unfoldable pub allowed_table : List (List Bool)
allowed_table =
    map (λ r. map (allowed_of r 1) states)
    (Dnload ∷ Upload ∷ GetStatus ∷ ClrStatus ∷ GetState ∷ Abort ∷ Query ∷ [])

-- its rule, at all of its entries
entry : Request → ℕ → Bool
entry r n = get_or (get_or allowed_table (row_of r) []) (column_of n) false

entries : (r : Request) (n : ℕ) → known_state n ≡ true → entry r n ≡ allowed_of r 1 n
unfolding entry allowed_table allowed_of
entries Dnload = at_column (allowed_of Dnload 1) false
entries Upload = at_column (allowed_of Upload 1) false
entries GetStatus = at_column (allowed_of GetStatus 1) false
entries ClrStatus = at_column (allowed_of ClrStatus 1) false
entries GetState = at_column (allowed_of GetState 1) false
entries Abort = at_column (allowed_of Abort 1) false
entries Query = at_column (allowed_of Query 1) false

-- what the table's reader answers outside the table and in it
module _ (r : Request) (n : ℕ) where
  pub past_columns : (j : ℕ) → j ≡ column_of n → length states ≤ j → false ≡ allowed_of r 1 n
  past_columns j e h =
      sym (unknown r n (sym (column_known n) ∙ le-ltb (column_of n) (length states) (rw e at h)))

  pub in_table :
      (i j : ℕ) → i ≡ row_of r → j ≡ column_of n → j < length states
      → get_or (get_or allowed_table i []) j false ≡ allowed_of r 1 n
  unfolding entry
  in_table i j e f h =
      rw (e, f) (entries r n (sym (column_known n) ∙ lt-ltb (column_of n) (length states) (rw f at h)))

-- the table and the one case that it leaves: a DNLOAD of no bytes in state idle
dnload_empty :
    (bytes n : ℕ) → (allowed_of Dnload 1 n && not (eqb n idle && eqb bytes 0)) ≡ allowed_of Dnload bytes n
unfolding allowed_of
dnload_empty bytes n =
    elim (ℕ_discrete n idle) [
      | yes e ↦ rw e (sym (or-false (not (eqb bytes 0))))
      | no e ↦ rw (ne_eqb n idle e) (and-true (eqb n download_idle))
    ]

pub not_empty :
    (r : Request) (bytes n : ℕ)
    → (allowed_of r 1 n && not (eqb (row_of r) 0 && eqb n idle && eqb bytes 0)) ≡ allowed_of r bytes n
unfolding allowed_of
not_empty Dnload bytes n = dnload_empty bytes n
not_empty Upload bytes n = and-true _
not_empty GetStatus bytes n = and-true _
not_empty ClrStatus bytes n = and-true _
not_empty GetState bytes n = and-true _
not_empty Abort bytes n = and-true _
not_empty Query bytes n = and-true _

-- the command of a number
command_by : ℕ → Command
command_by (suc zero) = Prog
command_by (suc (suc zero)) = Read
command_by (suc (suc (suc zero))) = Check
command_by (suc (suc (suc (suc zero)))) = Erase
command_by (suc (suc (suc (suc (suc zero))))) = Info
command_by (suc (suc (suc (suc (suc (suc zero)))))) = Bin
command_by n = Reset

command_back : (c : Command) → command_by (number_of c) ≡ c
unfolding command_by
command_back Prog = refl
command_back Read = refl
command_back Check = refl
command_back Erase = refl
command_back Info = refl
command_back Bin = refl
command_back Reset = refl

-- a command's number isn't one that is none's
numbered : (c : Command) → (0 < number_of c) × (number_of c ≤ reset)
numbered Prog = (omega arith, omega arith)
numbered Read = (omega arith, omega arith)
numbered Check = (omega arith, omega arith)
numbered Erase = (omega arith, omega arith)
numbered Info = (omega arith, omega arith)
numbered Bin = (omega arith, omega arith)
numbered Reset = (omega arith, omega arith)

-- no second reading fits a number: it is one command's, or none's and told as it came
pub decoded_once : (n : ℕ) (r q : Result Command UnknownCommand) → Decodes n r → Decodes n q → r ≡ q
decoded_once n (Ok c) (Ok d) h k = ap (λ (x : Command). Ok x) (sym (command_back c) ∙ ap command_by (h ∙ sym k) ∙ command_back d)
decoded_once n (Ok c) (Err e) h k = absurd (omega (arith, h, k.1, numbered c))
decoded_once n (Err e) (Ok d) h k = absurd (omega (arith, k, h.1, numbered d))
decoded_once n (Err e) (Err f) h k =
    let same : e.0 ≡ f.0 = omega (arith, h.0, k.0) in
    ap (λ (m : ℕ). Err (record { 0 = m })) same
