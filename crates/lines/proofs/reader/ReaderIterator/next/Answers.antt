-- `next` of `lines::reader::Reader` meets its contract: who finds something has fewer bytes left. Assumes nothing.
use Rattle.lines.proofs.ReaderLaws.{goes_on}
use Rattle.lines.proofs.reader.ReaderIterator.next.Goals as goal

pub returns-clause-goes : goal.returns-clause-goes
returns-clause-goes c = goes_on _ _ _ c.next_frame.ensures
