use Rattle.word_commit.proofs.store.Store.share.Given as goal

abbrev pub ghosts-share_as : goal.ghosts-share_as
ghosts-share_as g a = record { quota = a.quota }
