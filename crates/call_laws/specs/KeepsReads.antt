-- Read keeps the transaction fit: what it records is a slot of the row's chain, or pointer 0 with xmin 0.
use Rattle.std.specs.Prelude.{◌≡◌, refl, true, List, ℕ, ◌≤◌, ◌<◌, length, get_or}
use Rattle.std.proofs.Common.{arith, lt-ltb, le-leb}
use Rattle.records.specs.Limits.{rows, slots, read_limit}
use Rattle.records.specs.Zero.{no_read}
use Rattle.rules.specs.Lists.{all}
use Rattle.rules.specs.Types.{Store, Tx, ReadRecord, Value}
use Rattle.rules.specs.Transaction.{reads_of, with_reads}
use Rattle.rules.specs.Fit.{read_fit, fit}
use Rattle.rules.specs.Numbers.{number_of}
use Rattle.rules.specs.Calls.{record_read, read}
use Rattle.basic_laws.specs.Cases.{every_none, cons_every, and_both, or_left}
use Rattle.basic_laws.specs.Chain.{chain_below}
use Rattle.statements.specs.Sized.{Sized}
use Rattle.basic_laws.specs.TestParts.{fit_parts, parts_fit}
use Rattle.basic_laws.specs.LaidOut.{pad_length, take_pad}
use Rattle.admitted_laws.specs.Resting.{Rests, rests}
use Rattle.sentences.specs.Refusals.{read_accepted}
use Rattle.call_laws.specs.Passed.{read_passed}
use Rattle.basic_laws.specs.Blanks.{all_more, drop_pad}
use Rattle.statements.specs.ReadWords.{Reading, own, found, known, absent, known_absent, read_of}
use Rattle.call_laws.specs.ReadLaws.{mem_mid, reading}
use Rattle.call_laws.specs.Counts.{SizedTx, blank_read, counts_parts, parts_counts}
use Rattle.call_laws.specs.Keeps.{Keeps}

module _ (S : Store) (x : Tx) (L : ℕ → List ℕ) (z : Sized S) (R : Rests S L) where
  -- a reading leaves fit reads
  pub reading_fits : {l m : List ReadRecord} {v : Value} (r : ℕ) → r < rows → Reading S x r (L r) l v m → all read_fit l ≡ true → all read_fit m ≡ true
  reading_fits r lt (own w o v) h = h
  reading_fits {l} r lt (found p e F k v) h =
      let b = chain_below S.next (get_or S.heads r 0) (L r) p (R.mends.stands.chains.chain r (omega (arith, z.heads)))
      (rw F.split (mem_mid p F.before F.after)) in
      all_more read_fit l (read_of r p (get_or S.xmin p 0)) h
      (cons_every _ _ (lt-ltb r rows lt)
      (cons_every _ _ (or_left _ _ (and_both _ _ (le-leb 1 p b.0) (le-leb p slots (omega (arith, b.1, z.next))))) every_none))
  reading_fits r lt (known p e F k v) h = h
  reading_fits {l} r lt (absent e s k v) h = all_more read_fit l (read_of r 0 0) h (cons_every _ _ (lt-ltb r rows lt) (cons_every _ _ refl every_none))
  reading_fits r lt (known_absent e s k v) h = h

  -- a fit transaction with other fit reads is fit
  pub reads_fit : fit S x ≡ true → (l : List ReadRecord) → length l ≤ read_limit → all read_fit l ≡ true → fit S (with_reads l x) ≡ true
  reads_fit k l le h =
      let P = fit_parts S x k in
      let K = counts_parts x P.counts in
      parts_fit S (with_reads l x) (record {
        counts = parts_counts (with_reads l x) (record {
          writes = K.writes;
          reads = le-leb (length l) read_limit le;
          index_reads = K.index_reads;
          snapshot = K.snapshot;
          savepoints = K.savepoints;
          no_writes = K.no_writes;
          no_reads = drop_pad no_read blank_read refl read_limit l;
          no_index_reads = K.no_index_reads;
          no_txids = K.no_txids;
          no_savepoints = K.no_savepoints;
        });
        reads = rw (take_pad read_limit no_read l le) h;
        writes = P.writes;
        apart = P.apart;
        stripes = P.stripes;
        savepoints = P.savepoints;
        within = P.within;
        snapshot = P.snapshot;
        present = P.present;
      })

-- an accepted read
pub read_keeps : (S : Store) (x : Tx) (r : ℕ) → Sized S → SizedTx x → number_of (read S x r).refusal ≡ 0 → Keeps S (read S x r).tx
read_keeps S x r z y h =
    let P = read_passed S x r h in
    let k = P.first in
    let R = rests S z k.rests in
    let l = record_read S x r (reads_of x) in
    rw (read_accepted S x r h) (record {
      sized = z;
      shaped = record {
        snapshot = y.snapshot;
        writes = y.writes;
        reads = pad_length read_limit no_read l;
        index_reads = y.index_reads;
        savepoints = y.savepoints;
      };
      rests = k.rests;
      fits =
          reads_fit S x R.0 z R.1 k.fits l P.room
          (reading_fits S x R.0 z R.1 r P.row (reading S x R.0 z R.1 k.fits r (reads_of x) P.row) (fit_parts S x k.fits).reads);
      active = k.active;
    })
