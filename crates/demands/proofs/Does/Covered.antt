-- Every DNLOAD that is in form and allowed falls under one of the rows: state, length, number, range and flash are told apart in the
-- order of the faults. Assumes nothing.
use Prim.Native.Nat.{ℕ, zero, suc, ◌+◌, ◌≤◌}
use mathlib.Core.Logic.{◌⊎◌, inl, inr, ⊎_elim}
use mathlib.Core.Path.{◌≡◌, refl}
use native.Mathlib.Decide.{ℕ_discrete, dec_le}
use native.Mathlib.Omega.{arith}
use lib.ListN.{get_or}
use Rattle.flash.specs.Flash.{start_of}
use Rattle.session.specs.Session.{app_end}
use Rattle.numbers.specs.Numbers.{word_at, long_at}
use Rattle.request.specs.declared.Request.{Request}
use Rattle.demands.specs.Calls.{Call, Site}
use Rattle.demands.specs.Asked.{state_of, Asks}
use Rattle.demands.specs.Commanded.{Commanded, Named, Counted, Legal, short, unknown, extra}
use Rattle.demands.specs.Does.Covered.{DnloadRow, DnloadRows}
use Rattle.demands.proofs.Ground.Unerased.{blank_or_first}

-- a range is legal or not
legal_or_not : (at : Site) (block len : ℕ) → Legal at block len ⊎ (Legal at block len → ⊥)
legal_or_not at block len =
    let board = at.session.board in
    elim (dec_le 1 len) [
      | yes some ↦
          elim (dec_le board.a.0 block) [
            | yes from ↦
                elim (dec_le (start_of block + len) (start_of (app_end board))) [
                  | yes to ↦ inl (record { some = some; from = from; to = to })
                  | no far ↦ inr (λ l. far l.to)
                ]
            | no low ↦ inr (λ l. low l.from)
          ]
      | no none ↦ inr (λ l. none l.some)
    ]

module _ (at : Site) (c : Call) (n : ℕ) (k : Asks at c Request.Dnload n) where
  piece_row : state_of at ≡ 5 → DnloadRow at c
  piece_row loading =
      let left = at.session.down.left in
      elim (ℕ_discrete n 0) [
        | yes none ↦
            elim (ℕ_discrete left 0) [
              | yes full ↦ DnloadRow.close (rw none at k) loading full
              | no missing ↦ DnloadRow.close_missing (rw none at k) loading (omega arith)
            ]
        | no some ↦
            elim (dec_le n left) [
              | yes few ↦ DnloadRow.piece n k loading (omega arith) few
              | no many ↦ DnloadRow.piece_data n k loading (omega arith)
            ]
      ]

  module _ (some : 1 ≤ n) (idle : state_of at ≡ 2) where
    abbrev block : ℕ
    block = word_at c.bytes 2

    abbrev len : ℕ
    len = long_at c.bytes 4

    abbrev count : ℕ
    count = word_at c.bytes 4

    abbrev code : ℕ
    code = get_or c.bytes 0 0

    named : Named c block len
    named = record { block_is = refl; len_is = refl }

    told : (m : ℕ) → code ≡ m → Commanded at c m n
    told m e = record { asks = k; some = some; idle = idle; command = e }

    alone : (m : ℕ) → n ≡ 8 → code ≡ m → Commanded at c m 8
    alone m eight e = rw eight at (told m e)

    prog_row : 8 ≤ n → Commanded at c 1 n → DnloadRow at c
    prog_row long is =
        ⊎_elim
        (λ legal.
        elim (dec_le n (8 + len)) [
          | yes few ↦
              ⊎_elim (λ blank. DnloadRow.prog block len n is long named legal few blank)
              (λ first. DnloadRow.prog_unerased block len n first.0 is long named legal few first.1) (blank_or_first at block len)
          | no many ↦ DnloadRow.prog_data block len n is named (omega arith)
        ])
        (λ none. DnloadRow.prog-range block len n is long named none) (legal_or_not at block len)

    check_row : Commanded at c 3 8 → DnloadRow at c
    check_row is =
        ⊎_elim
        (λ legal.
        ⊎_elim (λ blank. DnloadRow.check block len is named legal blank)
        (λ first. DnloadRow.check_unerased block len first.0 is named legal first.1) (blank_or_first at block len))
        (λ none. DnloadRow.check-range block len is named none) (legal_or_not at block len)

    read_row : Commanded at c 2 8 → DnloadRow at c
    read_row is =
        ⊎_elim (λ legal. DnloadRow.read block len is named legal) (λ none. DnloadRow.read-range block len is named none)
        (legal_or_not at block len)

    erase_row : Commanded at c 4 8 → DnloadRow at c
    erase_row is =
        let counted : Counted c block count = record { block_is = refl; count_is = refl } in
        ⊎_elim (λ legal. DnloadRow.erase block count is counted legal) (λ none. DnloadRow.erase-range block count is counted none)
        (legal_or_not at block (start_of count))

    bin_row : Commanded at c 6 8 → DnloadRow at c
    bin_row is =
        elim (ℕ_discrete (get_or c.bytes 1 0) 0) [ yes on ↦ DnloadRow.bin_on is on | no off ↦ DnloadRow.bin_off is off ]

    -- a command of eight bytes other than PROG, by its number
    eight_row : n ≡ 8 → (code ≡ 1 → ⊥) → (m : ℕ) → code ≡ m → DnloadRow at c
    eight_row eight n1 zero e = DnloadRow.no_command 0 n (told 0 e) (unknown (inl refl))
    eight_row eight n1 (suc zero) e = absurd (n1 e)
    eight_row eight n1 (suc (suc zero)) e = read_row (alone 2 eight e)
    eight_row eight n1 (suc (suc (suc zero))) e = check_row (alone 3 eight e)
    eight_row eight n1 (suc (suc (suc (suc zero)))) e = erase_row (alone 4 eight e)
    eight_row eight n1 (suc (suc (suc (suc (suc zero))))) e = DnloadRow.info (alone 5 eight e)
    eight_row eight n1 (suc (suc (suc (suc (suc (suc zero)))))) e = bin_row (alone 6 eight e)
    eight_row eight n1 (suc (suc (suc (suc (suc (suc (suc zero))))))) e = DnloadRow.reset (alone 7 eight e)
    eight_row eight n1 (suc (suc (suc (suc (suc (suc (suc (suc m)))))))) e =
        DnloadRow.no_command _ n (told _ e) (unknown (inr (omega arith)))

    command_row : DnloadRow at c
    command_row =
        elim (dec_le 8 n) [
          | yes long ↦
              elim (ℕ_discrete code 1) [
                | yes e ↦ prog_row long (told 1 e)
                | no n1 ↦
                    elim (ℕ_discrete n 8) [
                      | yes eight ↦ eight_row eight n1 code refl
                      | no more ↦ DnloadRow.no_command code n (told code refl) (extra (omega arith) n1)
                    ]
              ]
          | no few ↦ DnloadRow.no_command code n (told code refl) (short (omega arith))
        ]

pub DnloadRows_hold : DnloadRows
DnloadRows_hold at c n k a = ⊎_elim (λ idle. command_row at c n k idle.1 idle.0) (λ loading. piece_row at c n k loading) a
