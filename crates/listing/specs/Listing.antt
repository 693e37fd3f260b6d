-- A listing, what the next tick shows, and the listing after it.
use Rattle.std.specs.Prelude.{ℕ, ◌+◌, ◌-◌, ◌^◌, min}
use Rattle.law.specs.declared.tick.Tick.{Tick}
use Rattle.wire.specs.Decoder.{new_decoder, decoder_step}
use Rattle.listing.specs.declared.listing.Listing.{Listing}
use Rattle.listing.specs.declared.marks.Marks.{Marks}

abbrev pub new_listing : Listing
new_listing = record { ticks = 0; decoder = new_decoder }

-- the count stays at the highest number
abbrev pub next_tick : ℕ → ℕ
next_tick n = min (n + 1) (2 ^ 64 - 1)

abbrev pub listing_step : Listing → Tick → Marks × Listing
listing_step s t = let w = decoder_step s.decoder t.event in (
  record { tick = next_tick s.ticks; wire = w.0; masters = t.marks },
  record { ticks = next_tick s.ticks; decoder = w.1 },
)
