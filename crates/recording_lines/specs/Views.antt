-- What the fields of a reader of lines stand for.
use Rattle.std.specs.Prelude.{◌≡◌, ◌≤◌, take, drop, vec_len, false}
use Rattle.recording_lines.specs.Lines.{most_bytes, has_newline}
use Rattle.recording_lines.specs.Reading.{Reading}
use Rattle.recording_lines.specs.declared.line_reader.LineReader.TheInside.{Inside}
use Rattle.recording_lines.specs.declared.line_reader.TheConstants.{PIECE}

abbrev pub reading_of : Inside → Reading
reading_of r = record {
  line = r.line.items;
  is_open = r.is_open;
  buffered = drop r.start (take r.end r.buffer.items);
  unread = r.unread;
  longest = r.longest;
}

-- the fields are within their ranges
pub record IsInOrder (r : Inside) : Type 0 where
  pub ordered : r.start ≤ r.end
  pub within : r.end ≤ PIECE
  pub piece : vec_len r.buffer ≡ PIECE
  pub short : vec_len r.line ≤ r.longest
  pub bounded : r.longest ≤ most_bytes
  pub plain : has_newline r.line.items ≡ false
