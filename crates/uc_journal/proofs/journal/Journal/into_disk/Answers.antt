use Rattle.uc_journal.proofs.journal.Journal.into_disk.Goals as goal

pub returns-clause-reads_back : goal.returns-clause-reads_back
returns-clause-reads_back g c ps u k = k.stands _ (g.met.D.Disk.sound c.args.self.disk k.told).seen_left
