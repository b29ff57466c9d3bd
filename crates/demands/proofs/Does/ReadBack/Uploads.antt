-- The uploads of reading back: the answers are the stream in pieces of 1,024 bytes, and one shorter that ends it. Assumes nothing.
use Prim.Native.Nat.{ℕ, zero, suc, ◌+◌, ◌-◌, ◌*◌, ◌≤◌, ◌<◌, min}
use mathlib.Core.Bool.{Bool, true, false, cond}
use mathlib.Core.List.{List, [], ◌∷◌, ◌++◌, append_assoc, append-nil}
use mathlib.Core.Path.{◌≡◌, refl, sym, ap, ap₂, ◌∙◌, subst}
use native.Mathlib.Omega.{arith}
use borrow.Author.Tests.{ne_eqb, ltb-true, ltb-false}
use lib.Dec.{eqb, ltb}
use lib.ListN.{length, take, drop, length-take, length-drop, take-append-drop}
use lib.Seq.{take-append_seam, take_all, drop-drop}
use Rattle.flash.specs.Flash.{start_of}
use Rattle.sums.specs.declared.Sums.{Sums}
use Rattle.session.specs.Session.{no_download}
use Rattle.session.specs.Rules.{split_rule, in_application}
use Rattle.session.specs.declared.Session.{Session}
use Rattle.request.specs.declared.Request.{Request}
use Rattle.request.specs.Request.{allowed_of}
use Rattle.stream.specs.Stream.{next_of, stream_of}
use Rattle.answers.specs.Answers.{Replied}
use Rattle.command.specs.Ready.{Ready}
use Rattle.loader.specs.Reply.{answered}
use Rattle.loader.specs.Upload.{place_of, answer_of, upload_ends, uploading_at, uploaded_of, upload_of}
use Rattle.loader.specs.Step.{step_of}
use Rattle.demands.specs.Does.ReadBack.{Host, ends, asks, Ran, run, upload, keep, joined, gathers, answers_of}
use Rattle.demands.proofs.Does.ReadBack.Calls.{site_of, on_taken, is_no, upload-called}
use Rattle.demands.proofs.Does.ReadBack.Sessions.{in_state_lem, image, image_streamed, at_idle, at_upload}
use Rattle.demands.proofs.Does.ReadBack.Sessions.{idle_fit, upload_fit}
use Rattle.demands.proofs.Ground.Finished.{with_flash}

-- answers that make up some bytes: none is empty, none has more than 1,024, and only the last may have fewer
pub data Pieces : List (List ℕ) → List ℕ → Type 0 where
  none : Pieces [] []
  more :
      {p rest : List ℕ} {ps : List (List ℕ)} → 0 < length p → length p ≤ 1024 → (0 < length rest → length p ≡ 1024)
      → Pieces ps rest → Pieces (p ∷ ps) (p ++ rest)

pub pieces_joined : {ps : List (List ℕ)} {xs : List ℕ} → Pieces ps xs → joined ps ≡ xs
unfolding joined
pieces_joined none = refl
pieces_joined (more {p} some few full then) = ap (λ (xs : List ℕ). p ++ xs) (pieces_joined then)

-- an answer that the host keeps: behind those that it has, as the last of the stream, and as one of 1,024 bytes
joins_by : (t : Bool) (got : List (List ℕ)) (a : List ℕ) → cond t got (got ++ (a ∷ [])) ≡ got ++ cond t [] ([] ++ (a ∷ []))
joins_by true got a = sym (append-nil got)
joins_by false got a = refl

keep_joins : (got : List (List ℕ)) (a : List ℕ) → keep got a ≡ got ++ keep [] a
unfolding keep
keep_joins got a = joins_by (eqb (length a) 0) got a

keep_full : (got : List (List ℕ)) (a : List ℕ) → 0 < length a → keep got a ≡ got ++ (a ∷ [])
unfolding keep
keep_full got a h = is_no _ _ _ (ne_eqb (length a) 0 (omega arith))

keep_last : (a : List ℕ) → length a ≤ 1024 → Pieces (keep [] a) a
unfolding keep
keep_last [] few = none
keep_last (x ∷ xs) few =
    let a = x ∷ xs in
    subst (λ (ps : List (List ℕ)). Pieces ps a) (sym (keep_full [] a (omega arith)))
    (subst (λ (ys : List ℕ). Pieces (a ∷ []) ys) (append-nil a) (more (omega arith) few (λ h. absurd (omega arith)) none))

-- UPLOADs: the host hears the stream from the session's place on
module _ (base : Session) (block len : ℕ) (sums : Sums) (f lent : List ℕ) where
  abbrev pub stream : List ℕ
  stream = image base.board block len f

  -- a session that is about to answer from a place of the stream
  record Reading (s : Session) (place : ℕ) : Type 0 where
    ready : Ready s f
    allowed : allowed_of Request.Upload 1024 s.phase.state.0 ≡ true
    stands : place_of s ≡ place
    streams : stream_of s.board s.unerased s.up f ≡ stream
    goes_on : (q : ℕ) → uploading_at s q ≡ in_state_lem base block len at_upload no_download q sums

  uploaded_on :
      {A : Type 0} (s : Session) (p : ℕ) → Reading s p → 1024 ≤ length lent → (go : List ℕ → Host A)
      → run step_of (site_of s f) (asks (upload lent) go)
      ≡ run step_of (site_of (in_state_lem base block len at_upload no_download (p + length (take 1024 (drop p stream))) sums) f)
      (go (take 1024 (drop p stream)))
  unfolding upload_of uploaded_of upload_ends answer_of next_of answered
  uploaded_on s p w room go =
      let a = take 1024 (drop p stream) in
      let given : upload_of s f 1024 lent ≡ answered (in_state_lem base block len at_upload no_download (p + length a) sums) a lent =
      ap₂
      (λ (q : ℕ) (xs : List ℕ). answered (uploading_at s (q + length (take 1024 (drop q xs)))) (take 1024 (drop q xs)) lent)
      w.stands w.streams
      ∙ ap (λ (x : Session). answered x a lent) (w.goes_on (p + length a))
      in
      on_taken (site_of s f) (upload lent) go (length a) _ f _
      (upload-called s f lent w.ready room w.allowed ∙ ap (λ (x : Replied). with_flash x f) given)
      ∙ ap (λ (x : List ℕ). run step_of (site_of (in_state_lem base block len at_upload no_download (p + length a) sums) f) (go x))
      (take-append_seam a (drop (length a) lent))

  -- what the uploads leave: all taken, the session at the stream's end, and the stream in pieces behind what the host had
  pub record Gathered (r : Ran (List (List ℕ))) (got : List (List ℕ)) (xs : List ℕ) : Type 0 where
    pub stops : r.site ≡ site_of (in_state_lem base block len at_upload no_download (8 + len) sums) f
    pub taken : r.taken ≡ true
    pub parts : List (List ℕ)
    pub joins : r.got ≡ got ++ parts
    pub pieces : Pieces parts xs

  -- the answer from a place on, and the session that it leaves
  answer : ℕ → List ℕ
  answer p = take 1024 (drop p stream)

  after_answer : ℕ → Session
  after_answer p = in_state_lem base block len at_upload no_download (p + length (answer p)) sums

  module _
      (room : 1024 ≤ length lent)
      (split : split_rule base.board ≡ true)
      (legal : in_application base.board block len ≡ true)
      (sized : length f ≡ start_of base.board.b.0)
      (whole : length stream ≡ 8 + len) where
    at_first : Reading (in_state_lem base block len at_idle no_download 0 sums) 0
    unfolding place_of uploading_at allowed_of
    at_first =
        record {
          ready = record { fit = idle_fit base block len split legal sums; sized = sized };
          allowed = refl;
          stands = refl;
          streams = image_streamed base.board block len base.unerased f 0;
          goes_on = λ q. refl;
        }

    further : (p : ℕ) → p ≤ 8 + len → Reading (in_state_lem base block len at_upload no_download p sums) p
    unfolding place_of uploading_at allowed_of
    further p h =
        record {
          ready = record { fit = upload_fit base block len split legal sums p h; sized = sized };
          allowed = refl;
          stands = refl;
          streams = image_streamed base.board block len base.unerased f p;
          goes_on = λ q. refl;
        }

    answer_length : (p : ℕ) → length (answer p) ≡ min 1024 (8 + len - p)
    unfolding answer
    answer_length p = rw (length-take, length-drop, whole)

    last_answer :
        (p : ℕ) (got : List (List ℕ)) → p ≤ 8 + len → length (answer p) < 1024
        → Gathered (run step_of (site_of (after_answer p) f) (ends (keep got (answer p)))) got (drop p stream)
    unfolding run answer after_answer
    last_answer p got h short =
        let l = answer_length p in
        let d = length-drop p stream in
        record {
          stops = ap (λ (q : ℕ). site_of (in_state_lem base block len at_upload no_download q sums) f) (omega arith);
          taken = refl;
          parts = keep [] (answer p);
          joins = keep_joins got (answer p);
          pieces =
              subst (λ (ys : List ℕ). Pieces (keep [] (answer p)) ys) (take_all 1024 (drop p stream) (omega arith))
              (keep_last (answer p) (omega arith));
        }

    full_answer :
        (r : Ran (List (List ℕ))) (p : ℕ) (got : List (List ℕ)) → length (answer p) ≡ 1024
        → Gathered r (keep got (answer p)) (drop (p + length (answer p)) stream)
        → Gathered r got (drop p stream)
    unfolding answer
    full_answer r p got full g =
        let a = answer p in
        let rest : a ++ drop (p + length a) stream ≡ drop p stream =
        ap (λ (xs : List ℕ). a ++ xs) (sym (drop-drop (length a) p stream))
        ∙ ap (λ (n : ℕ). a ++ drop n (drop p stream)) full
        ∙ take-append-drop 1024 (drop p stream)
        in
        record {
          stops = g.stops;
          taken = g.taken;
          parts = a ∷ g.parts;
          joins =
              g.joins
              ∙ ap (λ (x : List (List ℕ)). x ++ g.parts) (keep_full got a (omega arith))
              ∙ append_assoc got (a ∷ []) g.parts;
          pieces =
              subst (λ (ys : List ℕ). Pieces (a ∷ g.parts) ys) rest
              (more (omega arith) (omega arith) (λ _. full) g.pieces);
        }

    by_length :
        (t : Bool) (n p : ℕ) (got : List (List ℕ)) → ltb (length (answer p)) 1024 ≡ t → p ≤ 8 + len
        → (length (answer p) ≡ 1024
        → Gathered (run step_of (site_of (after_answer p) f) (gathers lent n (keep got (answer p)))) (keep got (answer p))
        (drop (p + length (answer p)) stream))
        → Gathered
        (run step_of (site_of (after_answer p) f) (cond t (ends (keep got (answer p))) (gathers lent n (keep got (answer p)))))
        got
        (drop p stream)
    by_length true n p got e h then = last_answer p got h (ltb-true _ _ e)
    by_length false n p got e h then =
        let l = answer_length p in
        let long = ltb-false (length (answer p)) 1024 e in
        let full : length (answer p) ≡ 1024 = omega arith in
        full_answer _ p got full (then full)

    gathered :
        (n p : ℕ) (got : List (List ℕ)) (s : Session) → Reading s p → p ≤ 8 + len → 8 + len < p + n * 1024
        → Gathered (run step_of (site_of s f) (gathers lent n got)) got (drop p stream)
    unfolding gathers answer after_answer
    gathered zero p got s w h enough = absurd (omega arith)
    gathered (suc n) p got s w h enough =
        let l = answer_length p in
        let go : List ℕ → Host (List (List ℕ)) =
        λ bytes. cond (ltb (length bytes) 1024) (ends (keep got bytes)) (gathers lent n (keep got bytes))
        in
        subst (λ (r : Ran (List (List ℕ))). Gathered r got (drop p stream)) (sym (uploaded_on s p w room go))
        (by_length (ltb (length (answer p)) 1024) n p got refl h
        (λ full.
        gathered n (p + length (answer p)) (keep got (answer p)) (after_answer p)
        (further (p + length (answer p)) (omega arith)) (omega arith) (omega arith)))

    pub all_read :
        Gathered (run step_of (site_of (in_state_lem base block len at_idle no_download 0 sums) f) (gathers lent (answers_of (8 + len)) [])) []
        (image base.board block len f)
    all_read = gathered (answers_of (8 + len)) 0 [] (in_state_lem base block len at_idle no_download 0 sums) at_first (omega arith) (omega arith)
