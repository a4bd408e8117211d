-- What a contract reads of a pass with a cache.
use Rattle.dict_lock.specs.declared.cached.CachedPass.{CachedPass}
use Rattle.dict_lock.specs.Cache.{CacheState}
use Rattle.dict_lock.specs.Shared.{BookPass}

abbrev pub pass_in : CachedPass → BookPass
pass_in c = c.pass

abbrev pub cache_of : CachedPass → CacheState
cache_of c = c.cache
