-- The streams hold their bytes as they are put together. Assumes nothing.
use Prim.Native.Nat.{ℕ}
use mathlib.Core.List.{List}
use mathlib.Core.Path.{◌≡◌}
use native.Mathlib.Omega.{arith}
use Rattle.flash.specs.Flash.{range}
use Rattle.session.specs.Session.{stream_length}
use Rattle.session.specs.declared.Board.{Board}
use Rattle.session.specs.declared.Upload.{Upload}
use Rattle.stream.specs.Stream.{header_of, prefix_of, info_stream, stream_of}
use Rattle.demands.specs.Does.Streams.{InfoBytes, HeaderAndRange, RangeAlone, Streams}

module _ (board : Board) (unerased : ℕ) (up : Upload) (flash : List ℕ) where
  info : up.choice ≡ 1 → InfoBytes board unerased up flash
  unfolding stream_of info_stream stream_length
  info h = record { bytes = rw h; count = rw h }

  prefix_on : up.choice ≡ 0 → up.«prefix» ≡ 1 → HeaderAndRange board unerased up flash
  unfolding stream_of prefix_of header_of range stream_length
  prefix_on h p = record { bytes = rw (h, p); count = rw (h, p) }

  prefix_off : up.choice ≡ 0 → up.«prefix» ≡ 0 → RangeAlone board unerased up flash
  unfolding stream_of prefix_of range stream_length
  prefix_off h p = record { bytes = rw (h, p); count = rw (h, p) (omega arith) }

pub Streams_hold : Streams
Streams_hold = record { info = info; prefix_on = prefix_on; prefix_off = prefix_off }
