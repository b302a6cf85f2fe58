-- The text of a log: a line for each turn.
use Rattle.std.specs.Prelude.{ℕ, Bool, true, false, nat_le, ◌&&◌, if◌then◌else◌, List, [], ◌∷◌, ◌++◌, codes, length, drop}
use Rattle.std.specs.List.{list_all}
use Rattle.std.specs.Fmt.{decimal, signed_decimal}
use Rattle.hex.specs.Hex.{encode_lower}
use Rattle.sale_frame.specs.Decode.{is_frame}
use Rattle.gw_site.specs.declared.turn.Turn.{Turn}
use Rattle.gw_site.specs.declared.turn.Turn.TheVariants.{Start, OpenFailed, Polled, Opened, HeardTill, Closed, HeardPt, Lost, Stopped, Linked, LinkFailed, SentTill, SentPt, CutTill, CutPt, Wrote, Synced, DiskFailed, Crash}

-- a space, or visible ASCII
abbrev pub is_space_or_visible : ℕ → Bool
is_space_or_visible byte = nat_le 32 byte && nat_le byte 126

-- the bytes are one whole frame, whose message is printable ASCII
abbrev pub is_printable_frame : List ℕ → Bool
is_printable_frame bytes = is_frame bytes && list_all is_space_or_visible (drop 4 bytes)

-- bytes of a till: `'` and the message of a printable frame, else lower-case hexadecimal
abbrev pub till_bytes_text : List ℕ → List ℕ
till_bytes_text bytes = if is_printable_frame bytes then 39 ∷ drop 4 bytes else encode_lower bytes

-- the bytes that a failed send took, and `-` for none
abbrev pub taken : List ℕ → List ℕ
taken [] = codes "-"
taken (byte ∷ bytes) = encode_lower (byte ∷ bytes)

-- a turn's line, without its end
abbrev pub turn_text : Turn → List ℕ
turn_text (Start setup) = codes "start"
turn_text OpenFailed = codes "open failed"
turn_text (Polled now) = codes "at " ++ signed_decimal now
turn_text (Opened till) = codes "open " ++ decimal till
turn_text (HeardTill till bytes) = codes "till " ++ (decimal till ++ (codes " in " ++ till_bytes_text bytes))
turn_text (Closed till) = codes "close " ++ decimal till
turn_text (HeardPt pt bytes) = codes "pt " ++ (decimal pt ++ (codes " in " ++ encode_lower bytes))
turn_text (Lost pt) = codes "lost " ++ decimal pt
turn_text Stopped = codes "stop"
turn_text (Linked pt) = codes "link " ++ decimal pt
turn_text (LinkFailed pt) = codes "link " ++ (decimal pt ++ codes " failed")
turn_text (SentTill till bytes true) = codes "till " ++ (decimal till ++ (codes " out " ++ till_bytes_text bytes))
turn_text (SentTill till bytes false) = codes "till " ++ (decimal till ++ (codes " out " ++ (taken bytes ++ codes " failed")))
turn_text (SentPt pt bytes true) = codes "pt " ++ (decimal pt ++ (codes " out " ++ encode_lower bytes))
turn_text (SentPt pt bytes false) = codes "pt " ++ (decimal pt ++ (codes " out " ++ (taken bytes ++ codes " failed")))
turn_text (CutTill till) = codes "till " ++ (decimal till ++ codes " cut")
turn_text (CutPt pt) = codes "pt " ++ (decimal pt ++ codes " cut")
turn_text (Wrote at bytes) = codes "wrote " ++ (decimal at ++ (codes " " ++ encode_lower bytes))
turn_text Synced = codes "synced"
turn_text DiskFailed = codes "disk failed"
turn_text (Crash file) = codes "power " ++ decimal (length file)

-- the lines of a log, each with its end
abbrev pub log_text : List Turn → List ℕ
log_text [] = []
log_text (turn ∷ turns) = turn_text turn ++ (10 ∷ log_text turns)
