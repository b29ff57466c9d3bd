-- What follows from each row follows from a call: a call isn't prepared, or falls under one row. It is said of any loaders that meet the
-- rows, so that one can be asked by itself and two can be laid side by side. Assumes nothing.
use Prim.Native.Nat.{ℕ}
use mathlib.Core.Bool.{Bool, true, false, false≢true}
use mathlib.Core.List.{List, []}
use mathlib.Core.Logic.{◌⊎◌, inl, inr, ⊎_elim}
use mathlib.Core.Path.{◌≡◌, refl, sym, ◌∙◌}
use native.Mathlib.Decide.{ℕ_discrete, dec_lt}
use native.Mathlib.Omega.{arith}
use lib.ListN.{length}
use Rattle.session.specs.Session.{fresh_of}
use Rattle.session.specs.declared.Session.{Session}
use Rattle.request.specs.declared.Request.{Request}
use Rattle.loader.specs.Step.{ready}
use Rattle.demands.specs.Calls.{Step, heard, Call, Site, called}
use Rattle.demands.specs.Asked.{state_of, Prepared, Form, Allowed, Asks, NoRequest}
use Rattle.demands.specs.Commanded.{Searches, prog, check}
use Rattle.demands.specs.Asked.Form.{getstatus, clrstatus, getstate, abort, query}
use Rattle.demands.specs.Safe.Refused.{Refused, Unfit, UnfitExactly}
use Rattle.demands.specs.Does.Rows.{StartsAt, Hands, Rows}
use Rattle.demands.specs.Does.Commands.{EraseDone, EraseWorks, BytesDone, ProgramWorks, Finds, Commands}
use Rattle.demands.specs.Does.Covered.{DnloadRow}
use Rattle.demands.proofs.Ground.Prepared.{prepared_ready, ready_prepared}
use Rattle.demands.proofs.Does.Forms.{Covered_holds}
use Rattle.demands.proofs.Does.Covered.{DnloadRows_hold}

-- the demands that say what a call leaves, row by row
pub record MeetsRows (step : Step) : Type 0 where
  pub refused : Refused step
  pub unfit_exactly : UnfitExactly step
  pub rows : Rows step
  pub commands : Commands step
  pub erase_works : EraseWorks step
  pub program_works : ProgramWorks step

-- a call is prepared or not
pub prepared_or_not : (at : Site) (c : Call) → Prepared at c ⊎ (Prepared at c → ⊥)
prepared_or_not at c =
    go (ready at.session (length at.flash) c.setup (length c.bytes) (length c.reply)) refl
  where
    go :
        (t : Bool) → ready at.session (length at.flash) c.setup (length c.bytes) (length c.reply) ≡ t
        → Prepared at c ⊎ (Prepared at c → ⊥)
    go true e = inl (ready_prepared at c e)
    go false e = inr (λ p. false≢true (sym e ∙ prepared_ready at c p))

module _ {I : Type 0} (step : I → Step) (at : Site) (c : Call) (P : Type 0) where
  -- what P has to follow from: what the loaders leave of a call that isn't prepared, and each kind of row
  pub record FromRows : Type 0 where
    pub unfits :
        ((z : I) → heard (called (step z) at c) ≡ 2) → ((z : I) → Unfit at c (called (step z) at c)) → P
    pub hands :
        {number : ℕ} {bytes : List ℕ} {t : Session} → t.unerased ≡ at.session.unerased
        → ((z : I) → Hands (step z) at c number bytes t) → P
    pub resets : ((z : I) → Hands (step z) at c 4 [] (fresh_of at.session.board at.session.sums)) → P
    pub erases : {block count : ℕ} → ((z : I) → EraseDone (step z) at c block count) → P
    pub pieces :
        {place len : ℕ} {bytes : List ℕ} → ((z : I) → BytesDone (step z) at c place len bytes at.session.unerased) → P
    pub programs :
        {block len place : ℕ} {bytes : List ℕ} → Searches at c block len
        → ((z : I) → BytesDone (step z) at c place len bytes 0xFFFFFFFF) → P
    pub finds :
        {block len number state status unerased : ℕ} → Searches at c block len
        → ((z : I) → Finds (step z) at c number state status unerased) → P

  module _ (meets : (z : I) → MeetsRows (step z)) (f : FromRows) where
    -- DNLOAD, row by row
    by-dnload : DnloadRow at c → P
    by-dnload (DnloadRow.close k loading full) = f.hands refl (λ z. ((meets z).rows at c).close k loading full)
    by-dnload (DnloadRow.close_missing k loading some) = f.hands refl (λ z. ((meets z).rows at c).close_missing k loading some)
    by-dnload (DnloadRow.piece n k loading some few) = f.pieces (λ z. ((meets z).program_works at c).goes_on n k loading some few)
    by-dnload (DnloadRow.piece_data n k loading many) = f.hands refl (λ z. ((meets z).commands at c).piece_data n k loading many)
    by-dnload (DnloadRow.no_command code n is none) = f.hands refl (λ z. ((meets z).commands at c).no_command code n is none)
    by-dnload (DnloadRow.prog block len n is long named legal few blank) =
        f.programs (prog n is long named legal few)
        (λ z. ((meets z).program_works at c).starts block len n is long named legal few blank)
    by-dnload (DnloadRow.prog-range block len n is long named bad) =
        f.hands refl (λ z. ((meets z).commands at c).prog-range block len n is long named bad)
    by-dnload (DnloadRow.prog_data block len n is named many) =
        f.hands refl (λ z. ((meets z).commands at c).prog_data block len n is named many)
    by-dnload (DnloadRow.prog_unerased block len n k is long named legal few first) =
        f.finds (prog n is long named legal few)
        (λ z. ((meets z).commands at c).prog_unerased block len n k is long named legal few first)
    by-dnload (DnloadRow.read block len is named legal) = f.hands refl (λ z. ((meets z).commands at c).read block len is named legal)
    by-dnload (DnloadRow.read-range block len is named bad) =
        f.hands refl (λ z. ((meets z).commands at c).read-range block len is named bad)
    by-dnload (DnloadRow.check block len is named legal blank) =
        f.finds (check is named legal) (λ z. ((meets z).commands at c).check block len is named legal blank)
    by-dnload (DnloadRow.check-range block len is named bad) =
        f.hands refl (λ z. ((meets z).commands at c).check-range block len is named bad)
    by-dnload (DnloadRow.check_unerased block len k is named legal first) =
        f.finds (check is named legal) (λ z. ((meets z).commands at c).check_unerased block len k is named legal first)
    by-dnload (DnloadRow.erase block count is named legal) =
        f.erases (λ z. (meets z).erase_works at c block count is named legal)
    by-dnload (DnloadRow.erase-range block count is named bad) =
        f.hands refl (λ z. ((meets z).commands at c).erase-range block count is named bad)
    by-dnload (DnloadRow.info is) = f.hands refl (λ z. ((meets z).commands at c).info is)
    by-dnload (DnloadRow.bin_off is off) = f.hands refl (λ z. ((meets z).commands at c).bin_off is off)
    by-dnload (DnloadRow.bin_on is on) = f.hands refl (λ z. ((meets z).commands at c).bin_on is on)
    by-dnload (DnloadRow.reset is) = f.resets (λ z. ((meets z).commands at c).reset is)

    by-upload : (n place : ℕ) → Asks at c Request.Upload n → StartsAt at place → P
    by-upload n place k from =
        elim (dec_lt n 1024) [
          | yes few ↦ f.hands refl (λ z. ((meets z).rows at c).upload_ends n place k from few)
          | no many ↦ f.hands refl (λ z. ((meets z).rows at c).upload_goes_on n place k from (omega arith))
        ]

    by_getstatus : Asks at c Request.GetStatus 6 → P
    by_getstatus k =
        elim (ℕ_discrete (state_of at) 3) [
          | yes sync ↦ f.hands refl (λ z. ((meets z).rows at c).getstatus_sync k sync)
          | no not_sync ↦
              elim (ℕ_discrete (state_of at) 6) [
                | yes closed ↦ f.hands refl (λ z. ((meets z).rows at c).getstatus_manifest k closed)
                | no not_closed ↦ f.hands refl (λ z. ((meets z).rows at c).getstatus_else k not_sync not_closed)
              ]
        ]

    by-stalled : Prepared at c → NoRequest at c → P
    by-stalled p none =
        elim (ℕ_discrete (state_of at) 10) [
          | yes ten ↦ f.hands refl (λ z. ((meets z).rows at c).stalled_in_error p none ten)
          | no not_ten ↦ f.hands refl (λ z. ((meets z).rows at c).stalled p none not_ten)
        ]

    -- a request whose form names its length
    asks_of : (r : Request) (n m : ℕ) → n ≡ m → Prepared at c → Form c.setup n r → Asks at c r m
    asks_of r n m e p form = record { prepared = p; form = rw e at form }

    by_asked : (r : Request) (n : ℕ) → Prepared at c → Form c.setup n r → Allowed r n (state_of at) → P
    by_asked Request.Dnload n p form a = by-dnload (DnloadRows_hold at c n (record { prepared = p; form = form }) a)
    by_asked Request.Upload n p form (inl idle) = by-upload n 0 (record { prepared = p; form = form }) (inl (idle, refl))
    by_asked Request.Upload n p form (inr going) =
        by-upload n at.session.up.place (record { prepared = p; form = form }) (inr (going, refl))
    by_asked Request.GetStatus n p (getstatus s e) a = by_getstatus (asks_of Request.GetStatus n 6 e p (getstatus s e))
    by_asked Request.ClrStatus n p (clrstatus s e) a =
        f.hands refl (λ z. ((meets z).rows at c).clrstatus (asks_of Request.ClrStatus n 0 e p (clrstatus s e)) a)
    by_asked Request.GetState n p (getstate s e) a =
        f.hands refl (λ z. ((meets z).rows at c).getstate (asks_of Request.GetState n 1 e p (getstate s e)))
    by_asked Request.Abort n p (abort s e) a =
        f.hands refl (λ z. ((meets z).rows at c).abort (asks_of Request.Abort n 0 e p (abort s e)) a)
    by_asked Request.Query n p (query s e v) a =
        f.hands refl (λ z. ((meets z).rows at c).query (asks_of Request.Query n 4 e p (query s e v)))

    by_prepared : Prepared at c → P
    by_prepared p =
        ⊎_elim (λ q. by_asked q.0 q.1 p q.2.form q.3) (λ none. by-stalled p none) (Covered_holds at c p)

    by_unprepared : (Prepared at c → ⊥) → P
    by_unprepared none =
        let two : (z : I) → heard (called (step z) at c) ≡ 2 = λ z. (meets z).unfit_exactly.unprepared at c none in
        f.unfits two (λ z. ((meets z).refused at c).unfit (two z))

    pub every_row : P
    every_row = ⊎_elim (λ p. by_prepared p) (λ none. by_unprepared none) (prepared_or_not at c)
