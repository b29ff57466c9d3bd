-- A call is prepared just where the step's first test says so, and brings as many bytes as its setup asks for. Assumes nothing.
use Prim.Native.Nat.{ℕ, ◌≤◌}
use mathlib.Core.Bool.{true, cond, ◌&&◌}
use mathlib.Core.List.{List}
use mathlib.Core.Logic.{◌⊎◌, inl, inr, ⊎_elim}
use mathlib.Core.Path.{◌≡◌, refl, sym, ap, ◌∙◌}
use native.Mathlib.Decide.{ℕ_discrete}
use borrow.Author.Tests.{eqb-true, eq-eqb, leb-true, le-leb}
use lib.Dec.{eqb, leb}
use lib.ListN.{length, get_or}
use Rattle.flash.specs.Flash.{start_of}
use Rattle.session.specs.Rules.{fit_of}
use Rattle.session.proofs.Laws.{fit_facts, facts_fit}
use Rattle.session.proofs.Tests.{left_of, right_of}
use Rattle.numbers.specs.Numbers.{word_at}
use Rattle.request.specs.Request.{setup_of, data_asked}
use Rattle.command.proofs.Laws.{pick}
use Rattle.loader.specs.Step.{ready}
use Rattle.demands.specs.Calls.{Call, Site}
use Rattle.demands.specs.Asked.{SaysDnload, Prepared}

-- the parts of eight setup bytes, and how many data bytes they ask for
module _ (setup : List ℕ) (eight : length setup ≡ 8) where
  pub setup_read :
      setup_of setup
      ≡ record {
        kind = get_or setup 0 0;
        number = get_or setup 1 0;
        value = word_at setup 2;
        index = word_at setup 4;
        length = word_at setup 6;
      }
  unfolding setup_of
  setup_read = rw (eq-eqb _ _ eight)

  data_asked_lem : data_asked setup ≡ cond (eqb (get_or setup 0 0) 0x21 && eqb (get_or setup 1 0) 1) (word_at setup 6) 0
  unfolding data_asked
  data_asked_lem = ap (λ x. cond (eqb x.kind 0x21 && eqb x.number 1) x.length 0) setup_read

  data_asked-dnload : SaysDnload setup → data_asked setup ≡ word_at setup 6
  data_asked-dnload h = data_asked_lem ∙ rw (h.0, h.1)

  data_asked_other : (SaysDnload setup → ⊥) → data_asked setup ≡ 0
  data_asked_other n =
      let kind = eqb (get_or setup 0 0) 0x21 in
      let number = eqb (get_or setup 1 0) 1 in
      data_asked_lem
      ∙ pick (λ (x : ℕ). x ≡ 0) (kind && number) _ _
      (λ e. absurd (n (eqb-true _ _ (left_of kind number e), eqb-true _ _ (right_of kind number e)))) (λ _. refl)

-- whether a setup says DNLOAD
says_or_not : (setup : List ℕ) → SaysDnload setup ⊎ (SaysDnload setup → ⊥)
says_or_not setup =
    elim (ℕ_discrete (get_or setup 0 0) 0x21) [
      | yes k ↦ elim (ℕ_discrete (get_or setup 1 0) 1) [ yes n ↦ inl (k, n) | no n ↦ inr (λ h. n h.1) ]
      | no k ↦ inr (λ h. k h.0)
    ]

module _ (at : Site) (c : Call) where
  pub prepared_from :
      length c.setup ≡ 8 → 1024 ≤ length c.reply → length at.flash ≡ start_of at.session.board.b.0
      → length c.bytes ≡ data_asked c.setup → fit_of at.session ≡ true → Prepared at c
  prepared_from eight room sized brought fit =
      record {
        setup_bytes = eight;
        room = room;
        flash_length = sized;
        dnload_data = λ h. brought ∙ data_asked-dnload c.setup eight h;
        other_data = λ n. brought ∙ data_asked_other c.setup eight n;
        rules = fit_facts at.session fit;
      }

  pub prepared_data_asked : Prepared at c → length c.bytes ≡ data_asked c.setup
  prepared_data_asked p =
      ⊎_elim (λ h. p.dnload_data h ∙ sym (data_asked-dnload c.setup p.setup_bytes h))
      (λ n. p.other_data n ∙ sym (data_asked_other c.setup p.setup_bytes n)) (says_or_not c.setup)

  -- the first test is what it says in words
  pub prepared_ready :
      Prepared at c
      → ready at.session (length at.flash) c.setup (length c.bytes) (length c.reply) ≡ true
  unfolding ready
  prepared_ready p =
      rw (
        eq-eqb (length c.setup) 8 p.setup_bytes,
        le-leb 1024 (length c.reply) p.room,
        eq-eqb (length at.flash) (start_of at.session.board.b.0) p.flash_length,
        eq-eqb (length c.bytes) (data_asked c.setup) (prepared_data_asked p),
        facts_fit at.session p.rules,
      )

  pub ready_prepared :
      ready at.session (length at.flash) c.setup (length c.bytes) (length c.reply) ≡ true
      → Prepared at c
  unfolding ready
  ready_prepared e =
      let eight = eqb (length c.setup) 8 in
      let roomy = leb 1024 (length c.reply) in
      let sized = eqb (length at.flash) (start_of at.session.board.b.0) in
      let loaded = eqb (length c.bytes) (data_asked c.setup) in
      let d = left_of (eight && roomy && sized && loaded) (fit_of at.session) e in
      let l = left_of (eight && roomy && sized) loaded d in
      let r = left_of (eight && roomy) sized l in
      prepared_from (eqb-true _ _ (left_of eight roomy r)) (leb-true _ _ (right_of eight roomy r))
      (eqb-true _ _ (right_of (eight && roomy) sized l)) (eqb-true _ _ (right_of (eight && roomy && sized) loaded d))
      (right_of (eight && roomy && sized && loaded) (fit_of at.session) e)
